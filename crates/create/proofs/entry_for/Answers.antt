-- `create::entry_for` meets its contract. Refusal 8, 10 or 11 by the first condition that holds, or the free entry.
use Rattle.std.proofs.Common.{sym}
use mathlib.Core.Path.{◌∙◌}
use Rattle.create.proofs.Laws.{own-by, short-good}
use Rattle.create.proofs.entry_for.Goals as goal

pub returns-then-bad_argument-clause-verdict : goal.returns-then-bad_argument-clause-verdict
returns-then-bad_argument-clause-verdict c =
    rw (own-by c.args.img.now c.args.g c.requires.is _ _ _, ← c.bad_argument.ensures, c.if-bad_argument.true)

pub is_taken-requires-clause-name_len_bound : goal.is_taken-requires-clause-name_len_bound
is_taken-requires-clause-name_len_bound c =
    short-good _ _ c.args.id c.args.time (sym c.bad_argument.ensures ∙ c.if-bad_argument.false)

pub returns-then-is_taken-clause-verdict : goal.returns-then-is_taken-clause-verdict
returns-then-is_taken-clause-verdict c = rw (
  own-by c.args.img.now c.args.g c.requires.is _ _ _,
  ← c.bad_argument.ensures,
  c.if-bad_argument.false,
  ← c.is_taken.ensures,
  c.if-is_taken.true,
)

pub returns-in_default-clause-verdict : goal.returns-in_default-clause-verdict
returns-in_default-clause-verdict c = rw (
  own-by c.args.img.now c.args.g c.requires.is _ _ _,
  ← c.bad_argument.ensures,
  c.if-bad_argument.false,
  ← c.is_taken.ensures,
  c.if-is_taken.false,
  ← c.free_entry.ensures,
  c.in_default.is,
)

pub returns-clause-verdict : goal.returns-clause-verdict
returns-clause-verdict c = rw (
  own-by c.args.img.now c.args.g c.requires.is _ _ _,
  ← c.bad_argument.ensures,
  c.if-bad_argument.false,
  ← c.is_taken.ensures,
  c.if-is_taken.false,
  ← c.free_entry.ensures,
  c.in-Some.is,
)
