-- `queries::read_lent` meets its contract. The judgement refuses, or `reading::read_lent_in` gives the read begun and the list.
use Rattle.std.proofs.Common.{length, sym, ap}
use Rattle.model.specs.Answers.{Verdict}
use Rattle.model.specs.Disk.{view}
use Rattle.model.specs.Lent.{lent_length}
use Rattle.laws.proofs.Judged.{lent-accepted, judged-own}
use Rattle.reading.proofs.Verdicts.{refusing}
use Rattle.reading.proofs.ReadAnswers.{read-judged, begins-none, begins-same}
use Rattle.reading.proofs.Clauses.{value_and_list}
use Rattle.queries.proofs.read_lent.Goals as goal

pub read_lent_in-requires : goal.read_lent_in-requires
read_lent_in-requires c = lent-accepted _ _ (ap (λ (v : Verdict). v.number) (sym c.in-Ok.ensures))

pub returns-in-Ok : goal.returns-in-Ok
returns-in-Ok c =
    let a = c.args in
    let len = lent_length (length a.front.now) a.count (view a.front.now) in
    let ok = ap (λ (v : Verdict). v.number) (sym c.in-Ok.ensures) in
    value_and_list (begins-same len a.front.now a.list.now a.name.now a.offset a.asked a.time a.room _ (judged-own len (view a.front.now) ok)
    (c.read_lent_in.ensures.value, c.read_lent_in.ensures.list_after))

pub returns-in-Err : goal.returns-in-Err
returns-in-Err c =
    let a = c.args in
    let len = lent_length (length a.front.now) a.count (view a.front.now) in
    rw c.idle.ensures
    (value_and_list (begins-none len a.front.now a.list.now a.name.now a.offset a.asked a.time a.room _
    (read-judged len a.front.now a.list.now a.name.now a.offset a.asked a.time a.room _ c.in-Err.ensures (refusing c.in-Err.refusal))))
