-- `directory::bad_name_in` meets its contract. A name longer than the longest is bad.
use mathlib.Core.Path.{◌≡◌, sym, ◌∙◌}
use native.Mathlib.Omega.{arith}
use lib.ListN.{length}
use borrow.Author.Tests.{lt-ltb}
use Rattle.model.specs.Entry.{name_in}
use Rattle.laws.proofs.Entry.{length-name_in, long-name}
use Rattle.directory.proofs.bad_name_in.Goals as goal

pub returns-then-longest_name-name_length : goal.returns-then-longest_name-name_length
returns-then-longest_name-name_length c =
    let edition = c.args.edition in
    let name = name_in edition c.args.s.now in
    let e : length name ≡ c.name_length.result = length-name_in edition c.args.s.now ∙ sym c.name_length.ensures in
    rw (lt-ltb _ _ c.if-longest_name-name_length.true) (sym (long-name edition name (omega arith)))
