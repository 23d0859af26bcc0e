-- `search::goofs_free_extent` meets its contract. The image is refused, or its table is searched.
use Rattle.std.proofs.Common.{sym, ap}
use Rattle.model.specs.Answers.{Verdict}
use Rattle.laws.proofs.Refusals.{readable}
use Rattle.laws.proofs.Results.{refused}
use Rattle.search.proofs.goofs_free_extent.Goals as goal

pub search_in-requires : goal.search_in-requires
search_in-requires c = readable _ (ap (λ (v : Verdict). v.number) (sym c.in-Ok.ensures))

pub returns-in-Ok : goal.returns-in-Ok
returns-in-Ok c = rw (← c.in-Ok.ensures) c.search_in.ensures

pub returns-in-Err : goal.returns-in-Err
returns-in-Err c = rw (← c.in-Err.ensures, refused c.in-Err.refusal, ← c.number.ensures)
