-- A call's two clauses, its answer and its list, where one lemma proves both.

pub value_and_list : {A B : Type 0} → A × B → record { value : A; list_after : B }
value_and_list both = record { value = both.0; list_after = both.1 }
