-- From where on there may be bindings whose names aren't known.
use Rattle.std.proofs.Common.{◌≡◌, ℕ, ◌<◌, ◌≤◌, ⊎_elim, false, min, Option, Some, None, List, [], ◌∷◌, ◌++◌, sym, subst, ap, arith}
use Rattle.std.specs.BTreeMap.{BTreeMap, Updates, get}
use Rattle.std.specs.List.{Any}
use Rattle.std.specs.Ordering.{is_eq}
use Rattle.std.proofs.lemmas.Bool.{both_ways, cases_Bool, cases_lt, false≢true, lt-ltb, ltb-true}
use Rattle.std.proofs.lemmas.Cmp.{nat_list_cmp_total, tied_itself}
use Rattle.base_types.proofs.Quantifiers.{Any-head}
use Rattle.clouds.specs.Kept.{text_order}
use Rattle.clouds.specs.declared.span.OpaqueSpan.{OpaqueSpan}
use Rattle.clouds.proofs.Quantified.{Any-append_cases, Any-append_left, Any-append_right, Any-cons_cases}
use Rattle.rbac_timeline.specs.declared.kind.Kind.TheVariants.{ClusterRoleBinding, RoleBinding}
use Rattle.rbac_timeline.specs.declared.nameless.Nameless.{Nameless}
use Rattle.rbac_timeline.specs.Kinds.{nameless_kind}
use Rattle.rbac_timeline.specs.Nameless.{AreLows, IsUnnamedAnywhere, IsUnnamedIn, IsUnnamedInCluster, TellsBelow, lesser_of}
use Rattle.rbac_timeline.proofs.Mentions.{same_text}

module _ (select : OpaqueSpan → Type 0) (spans : List OpaqueSpan) (span : OpaqueSpan) where
  abbrev begins : ℕ → OpaqueSpan → Type 0
  begins place s = select s × (s.low < place)

  the_one : (place : ℕ) → Any (begins place) (span ∷ []) → begins place span
  the_one place any = ⊎_elim (λ here. here) (λ none. absurd (let within = none.2 in omega arith)) (Any-cons_cases (begins place) span [] any)

  -- one span more that is selected
  pub TellsBelow-more : (low : Option ℕ) → select span → TellsBelow select spans low → TellsBelow select (spans ++ span ∷ []) (Some (lesser_of low span.low))
  TellsBelow-more None is tells = λ place. (
    (λ below. Any-append_right (begins place) spans (span ∷ []) (Any-head (begins place) span [] (is, ltb-true span.low place below))),
    (λ any. ⊎_elim
        (λ first. absurd (false≢true ((tells place).1 first)))
        (λ last. lt-ltb span.low place (the_one place last).1)
        (Any-append_cases (begins place) spans (span ∷ []) any)),
  )
  TellsBelow-more (Some low) is tells = λ place. (
    (λ below.
        let less : min low span.low < place = ltb-true (min low span.low) place below in
        ⊎_elim
        (λ (first : low < place). Any-append_left (begins place) spans (span ∷ []) ((tells place).0 (lt-ltb low place first)))
        (λ (above : place ≤ low). Any-append_right (begins place) spans (span ∷ []) (Any-head (begins place) span [] (is, omega arith)))
        (cases_lt low place)),
    (λ any. ⊎_elim
        (λ first. let less : low < place = ltb-true low place ((tells place).1 first) in lt-ltb (min low span.low) place (omega arith))
        (λ last. let less : span.low < place = (the_one place last).1 in lt-ltb (min low span.low) place (omega arith))
        (Any-append_cases (begins place) spans (span ∷ []) any)),
  )

  -- and one that isn't
  pub TellsBelow-same : (low : Option ℕ) → (select span → ⊥) → TellsBelow select spans low → TellsBelow select (spans ++ span ∷ []) low
  TellsBelow-same low not tells = λ place. (
    (λ below. Any-append_left (begins place) spans (span ∷ []) ((tells place).0 below)),
    (λ any. ⊎_elim
        (λ first. (tells place).1 first)
        (λ last. absurd (not (the_one place last).0))
        (Any-append_cases (begins place) spans (span ∷ []) any)),
  )

pub same_namespace : (o : Option (List ℕ)) (a b : List ℕ) → o ≡ Some a → o ≡ Some b → a ≡ b
same_namespace o a b is other = cc

module _ (nameless : Nameless) (spans : List OpaqueSpan) (span : OpaqueSpan) (are : AreLows nameless spans) where
  pub AreLows-namespace : (by_namespace : BTreeMap (List ℕ) ℕ) (namespace : List ℕ) → nameless_kind span.cover ≡ Some RoleBinding → span.cover.namespace ≡ Some namespace
      → Updates text_order nameless.by_namespace by_namespace namespace (Some (lesser_of (get text_order nameless.by_namespace namespace) span.low))
      → AreLows (record nameless { by_namespace = by_namespace }) (spans ++ span ∷ [])
  AreLows-namespace by_namespace namespace kind is updates = record {
    in_namespace = λ other. ⊎_elim
        (λ tied. subst (λ n. TellsBelow (IsUnnamedIn n) (spans ++ span ∷ []) (get text_order by_namespace n)) (same_text namespace other tied)
        (subst (λ low. TellsBelow (IsUnnamedIn namespace) (spans ++ span ∷ []) low) (sym updates.1)
        (TellsBelow-more (IsUnnamedIn namespace) spans span (get text_order nameless.by_namespace namespace) (kind, is) (are.in_namespace namespace))))
        (λ apart. subst (λ low. TellsBelow (IsUnnamedIn other) (spans ++ span ∷ []) low) (sym (updates.2 other apart))
        (TellsBelow-same (IsUnnamedIn other) spans span (get text_order nameless.by_namespace other)
        (λ selected. both_ways _ (subst (λ n. is_eq (text_order namespace n) ≡ false) (sym (same_namespace span.cover.namespace namespace other is selected.1)) apart)
        (ap is_eq (tied_itself nat_list_cmp_total namespace)))
        (are.in_namespace other)))
        (cases_Bool (is_eq (text_order namespace other)));
    anywhere = TellsBelow-same IsUnnamedAnywhere spans span nameless.anywhere (λ selected. let none = selected.1 in cc) are.anywhere;
    in_cluster = TellsBelow-same IsUnnamedInCluster spans span nameless.cluster_bindings (λ selected. cc) are.in_cluster;
  }

  pub AreLows-anywhere : nameless_kind span.cover ≡ Some RoleBinding → span.cover.namespace ≡ None
      → AreLows (record nameless { anywhere = Some (lesser_of nameless.anywhere span.low) }) (spans ++ span ∷ [])
  AreLows-anywhere kind is = record {
    in_namespace = λ other. TellsBelow-same (IsUnnamedIn other) spans span (get text_order nameless.by_namespace other) (λ selected. let some = selected.1 in cc) (are.in_namespace other);
    anywhere = TellsBelow-more IsUnnamedAnywhere spans span nameless.anywhere (kind, is) are.anywhere;
    in_cluster = TellsBelow-same IsUnnamedInCluster spans span nameless.cluster_bindings (λ selected. cc) are.in_cluster;
  }

  pub AreLows-cluster : nameless_kind span.cover ≡ Some ClusterRoleBinding
      → AreLows (record nameless { cluster_bindings = Some (lesser_of nameless.cluster_bindings span.low) }) (spans ++ span ∷ [])
  AreLows-cluster kind = record {
    in_namespace = λ other. TellsBelow-same (IsUnnamedIn other) spans span (get text_order nameless.by_namespace other) (λ selected. let other_kind = selected.0 in cc) (are.in_namespace other);
    anywhere = TellsBelow-same IsUnnamedAnywhere spans span nameless.anywhere (λ selected. let other_kind = selected.0 in cc) are.anywhere;
    in_cluster = TellsBelow-more IsUnnamedInCluster spans span nameless.cluster_bindings kind are.in_cluster;
  }

  pub AreLows-other : (nameless_kind span.cover ≡ Some RoleBinding → ⊥) → (nameless_kind span.cover ≡ Some ClusterRoleBinding → ⊥) → AreLows nameless (spans ++ span ∷ [])
  AreLows-other plain cluster = record {
    in_namespace = λ other. TellsBelow-same (IsUnnamedIn other) spans span (get text_order nameless.by_namespace other) (λ selected. plain selected.0) (are.in_namespace other);
    anywhere = TellsBelow-same IsUnnamedAnywhere spans span nameless.anywhere (λ selected. plain selected.0) are.anywhere;
    in_cluster = TellsBelow-same IsUnnamedInCluster spans span nameless.cluster_bindings cluster are.in_cluster;
  }
