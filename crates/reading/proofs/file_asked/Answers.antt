-- `reading::file_asked` meets its contract. An argument is bad, no file has the name, or it is the file's.
use Rattle.std.proofs.Common.{sym}
use mathlib.Core.Path.{◌∙◌}
use Rattle.reading.proofs.ReadAnswers.{good-arguments}
use Rattle.reading.proofs.file_asked.Goals as goal

pub returns-then-bad_argument-clause-verdict : goal.returns-then-bad_argument-clause-verdict
returns-then-bad_argument-clause-verdict c = rw (← c.bad_argument.ensures, c.if-bad_argument.true)

pub file_named-requires-clause-name_len_bound : goal.file_named-requires-clause-name_len_bound
file_named-requires-clause-name_len_bound c =
    (good-arguments c.args.g.edition c.args.name.now c.args.asked c.args.time (sym c.bad_argument.ensures ∙ c.if-bad_argument.false)).0

pub returns-in_default-clause-verdict : goal.returns-in_default-clause-verdict
returns-in_default-clause-verdict c = rw (← c.bad_argument.ensures, c.if-bad_argument.false, ← c.file_named.ensures, c.in_default.is)

pub returns : goal.returns
returns c = record {
  verdict = rw (← c.bad_argument.ensures, c.if-bad_argument.false, ← c.file_named.ensures, c.in-Some.is);
  file = (
    sym c.file_named.ensures ∙ c.in-Some.is,
    (good-arguments c.args.g.edition c.args.name.now c.args.asked c.args.time (sym c.bad_argument.ensures ∙ c.if-bad_argument.false)).1,
  );
}
