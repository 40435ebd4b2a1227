-- What was taken of names that are read one after another.
use Rattle.std.proofs.Common.{◌≡◌, ◌≢◌, ℕ, suc, zero, ◌<◌, List, [], ◌∷◌, length, Bool, true, false, Contains, Option, Result, Err, bytes_eq, if◌then◌else◌, get_or, ◌⊎◌, inl, inr, refl, sym, ◌∙◌, subst, arith}
use Rattle.std.specs.List.{list_any}
use Rattle.std.proofs.lemmas.Cmp.{nat_list_eq_equiv}
use Rattle.std.proofs.lemmas.List.Elements.{Contains-append_right}
use Rattle.std.proofs.lemmas.Map.Views.{list_any-from_Contains}
use Rattle.edge_io.proofs.TakenFacts.{taken_nothing}
use Rattle.edge_io.specs.Whole.{StaysWithin, TakesWhole}
use Rattle.edge_io.specs.declared.whole.WholeStop.{WholeStop}
use Rattle.edge_io.specs.declared.whole.WholeStop.TheVariants.{TooLong, ReadFault, OutOfMemory}
use Rattle.process_words.specs.Names.{are_distinct}
use Rattle.cluster_setup.specs.Gathering.{AreUntouched, IsReadWhole, LeavesOthers, TakesFiles, TakesInOrder, most_file}

pub first_of : (name : List ℕ) (names : List (List ℕ)) → Contains (name ∷ names) name
first_of name names = (zero, omega arith, refl)

pub later_of : (name : List ℕ) (names : List (List ℕ)) (other : List ℕ) → Contains names other → Contains (name ∷ names) other
later_of name names other among = Contains-append_right (name ∷ []) names other among

distinct_parts : (among rest : Bool) → (if among then false else rest) ≡ true → (among ≡ false) × (rest ≡ true)
distinct_parts true rest is = absurd (let no : false ≡ true = is in cc)
distinct_parts false rest is = (refl, is)

pub distinct_rest : (name : List ℕ) (names : List (List ℕ)) → are_distinct (name ∷ names) ≡ true → are_distinct names ≡ true
distinct_rest name names differ = (distinct_parts (list_any (bytes_eq name) names) (are_distinct names) differ).1

pub apart : (name : List ℕ) (names : List (List ℕ)) → are_distinct (name ∷ names) ≡ true → (other : List ℕ) → Contains names other → other ≢ name
apart name names differ other among same =
    let found : list_any (bytes_eq name) names ≡ true = list_any-from_Contains nat_list_eq_equiv name names (subst (Contains names) same among) in
    let none = (distinct_parts (list_any (bytes_eq name) names) (are_distinct names) differ).0 in
    let no : true ≡ false = sym found ∙ none in cc

-- one of some names is the first, or one behind it
pub first_or_later : (name : List ℕ) (names : List (List ℕ)) (other : List ℕ) (at : ℕ) → at < length (name ∷ names) → get_or (name ∷ names) at other ≡ other → (other ≡ name) ⊎ Contains names other
first_or_later name names other zero within is = inl (sym is)
first_or_later name names other (suc at) within is = inr (at, omega (arith, within), is)

-- a name of which nothing was taken
whole_none : (left : Option (List ℕ)) (fine : Type 0) → TakesWhole most_file left left fine
whole_none left fine = record {
  front = [];
  piece = [];
  taken = taken_nothing left;
  within = omega arith;
  short = omega arith;
  blameless = λ _. refl;
}

pub whole_where : (old left : Option (List ℕ)) (fine fine' : Type 0) → (fine' → fine) → TakesWhole most_file old left fine → TakesWhole most_file old left fine'
whole_where old left fine fine' weaker t = record {
  front = t.front;
  piece = t.piece;
  taken = t.taken;
  within = t.within;
  short = t.short;
  blameless = λ is. t.blameless (weaker is);
}

pub files_where : (names : List (List ℕ)) (old left : List ℕ → Option (List ℕ)) (fine fine' : Type 0) → (fine' → fine) → TakesFiles names old left fine → TakesFiles names old left fine'
files_where names old left fine fine' weaker t = record {
  taken = λ name among. whole_where (old name) (left name) fine fine' weaker (t.taken name among);
  in_order = t.in_order;
}

-- a name that ended where a read failed
pub stays_within : {A : Type 0} (stop : WholeStop) → ◌≡◌ {A = Result A WholeStop} (Err stop) (Err ReadFault) → StaysWithin (Err stop)
stays_within TooLong is = absurd (cc)
stays_within ReadFault is = tt
stays_within OutOfMemory is = absurd (cc)

none_in_order : (names : List (List ℕ)) (left : List ℕ → Option (List ℕ)) → TakesInOrder names left left
none_in_order [] left = tt
none_in_order (name ∷ names) left = inr (λ other among. refl)

-- nothing was taken of any of them
pub none_taken : (names : List (List ℕ)) (left : List ℕ → Option (List ℕ)) (fine : Type 0) → TakesFiles names left left fine
none_taken names left fine = record {
  taken = λ name among. whole_none (left name) fine;
  in_order = none_in_order names left;
}

-- nothing was taken of these names before
order_from : (names : List (List ℕ)) (old mid left : List ℕ → Option (List ℕ)) → AreUntouched names old mid → TakesInOrder names mid left → TakesInOrder names old left
order_from [] old mid left same order = tt
order_from (name ∷ names) old mid left same (inl (read, order)) =
    inl (
      subst (λ o. IsReadWhole o (left name)) (same name (first_of name names)) read,
      order_from names old mid left (λ other among. same other (later_of name names other among)) order,
    )
order_from (name ∷ names) old mid left same (inr untouched) = inr (λ other among. untouched other among ∙ same other (later_of name names other among))

-- what was taken of the first name, and then of those behind it
module _ (name : List ℕ) (names : List (List ℕ)) (old mid left : List ℕ → Option (List ℕ)) (differ : are_distinct (name ∷ names) ≡ true)
    (others : (other : List ℕ) → other ≢ name → mid other ≡ old other) (behind : LeavesOthers names mid left) (fine : Type 0) (first : TakesWhole most_file (old name) (mid name) fine) where
  first_stays : left name ≡ mid name
  first_stays = behind name (λ among. apart name names differ name among refl)

  later_untouched : AreUntouched names old mid
  later_untouched other among = others other (apart name names differ other among)

  one_taken : (other : List ℕ) → ((later : List ℕ) → Contains names later → TakesWhole most_file (mid later) (left later) fine) → (other ≡ name) ⊎ Contains names other
      → TakesWhole most_file (old other) (left other) fine
  one_taken other rest (inl same) =
      subst (λ n. TakesWhole most_file (old n) (left n) fine) (sym same) (subst (λ l. TakesWhole most_file (old name) l fine) (sym first_stays) first)
  one_taken other rest (inr among) = subst (λ o. TakesWhole most_file o (left other) fine) (later_untouched other among) (rest other among)

  pub files_taken : IsReadWhole (old name) (mid name) → TakesFiles names mid left fine → TakesFiles (name ∷ names) old left fine
  files_taken read rest = record {
    taken = λ other among. one_taken other rest.taken (first_or_later name names other among.0 among.1 among.2);
    in_order = inl (subst (λ l. IsReadWhole (old name) l) (sym first_stays) read, order_from names old mid left later_untouched rest.in_order);
  }

-- the first name alone was touched
pub first_taken : (name : List ℕ) (names : List (List ℕ)) (old mid : List ℕ → Option (List ℕ)) (fine : Type 0) → are_distinct (name ∷ names) ≡ true
    → ((other : List ℕ) → other ≢ name → mid other ≡ old other) → TakesWhole most_file (old name) (mid name) fine → TakesFiles (name ∷ names) old mid fine
first_taken name names old mid fine differ others first = record {
  taken = λ other among.
      one_taken name names old mid mid differ others (λ _ none. refl) fine first other (λ later _. whole_none (mid later) fine) (first_or_later name names other among.0 among.1 among.2);
  in_order = inr (λ other among. others other (apart name names differ other among));
}
