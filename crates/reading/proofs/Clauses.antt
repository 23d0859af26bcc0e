-- A call's clauses, its answer, its output and its list, where one lemma proves all. The crates above take both from here.
pub use Rattle.commit.proofs.Clauses.{value_and_list}

pub value_out_and_list : {A B C : Type 0} → A × (B × C) → record { value : A; out_after : B; list_after : C }
value_out_and_list all = record { value = all.0; out_after = all.1.0; list_after = all.1.1 }
