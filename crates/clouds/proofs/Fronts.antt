-- Spans that are found by the fronts of a key's name.
use Rattle.std.proofs.Common.{◌≡◌, ℕ, ◌+◌, ◌<◌, ◌≤◌, ◌⊎◌, ⊎_elim, inl, inr, Option, Some, None, List, [], ◌∷◌, ◌++◌, length, get_or, take, refl, sym, ◌∙◌, subst, ap, arith}
use Rattle.std.specs.BTreeMap.{BTreeMap}
use Rattle.std.specs.Cmp.{IsTotalOrder, nat_cmp_total}
use Rattle.std.specs.Cmp.Lexicographic.{options_total}
use Rattle.std.specs.List.{Any, Contains}
use Rattle.std.specs.Option.{MatchOption, option_map}
use Rattle.std.specs.declared.vec.Vec.{Vec}
use Rattle.std.proofs.lemmas.Bool.{cases_lt, leb-false, leb-true}
use Rattle.std.proofs.lemmas.Cmp.{on_total, then_total}
use Rattle.std.proofs.lemmas.List.{get_or-take, length-append, length-take, take-append-le, take_all, take_more}
use Rattle.std.proofs.lemmas.Option.{none-some}
use Rattle.base_types.proofs.Quantifiers.{Any-contains, Any-head, Any-weaker}
use Rattle.base_types.specs.Covers.{Covers, TakesName}
use Rattle.base_types.specs.declared.kubernetes.key.CoverName.{CoverName}
use Rattle.base_types.specs.declared.kubernetes.key.CoverName.TheVariants.{Exact, Prefix, Any as AnyName}
use Rattle.base_types.specs.declared.kubernetes.key.ObjectKey.{ObjectKey}
use Rattle.clouds.specs.declared.span.OpaqueSpan.{OpaqueSpan}
use Rattle.clouds.specs.declared.wide.Folder.{Folder}
use Rattle.clouds.specs.declared.wide.Scope.{Scope}
use Rattle.clouds.specs.declared.wide.Wide.{Wide}
use Rattle.clouds.specs.FirstPlace.{IsFirstPlace, lesser_place}
use Rattle.clouds.specs.Items.{AddsAt, items_at}
use Rattle.clouds.specs.Upto.{AreUpto}
use Rattle.clouds.specs.Wide.{AddsWide, AnyIn, AnyWide, Extends, IsNumbered, any_scope, folder_order, front_of, lengths_of, number_of, own_scope, scope_from, scope_order, spans_at, spans_by}
use Rattle.clouds.proofs.FirstPlaces.{Either, IsFirstPlace-either, IsFirstPlace-same}
use Rattle.clouds.proofs.Quantified.{Any-append_cases, Any-append_left, Any-append_right, Any-cons_cases}
use Rattle.clouds.proofs.Searching.{Parts, is_upto}

pub AreUpto-take : (lengths upto : List ℕ) (most count : ℕ) → upto ≡ take count lengths → Parts (is_upto most) lengths count → count ≤ length lengths
    → AreUpto lengths most upto
AreUpto-take lengths upto most count is parts within l = ((λ among. fits (subst (λ xs. Contains xs l) is among)), (λ both. subst (λ xs. Contains xs l) (sym is) (front both.0 both.1)))
  where
    fits : Contains (take count lengths) l → Contains lengths l × (l ≤ most)
    fits among =
        let below : among.0 < count = (let inside = among.1 in omega (arith, length-take count lengths)) in
        let inside : among.0 < length lengths = omega arith in
        let at : get_or lengths among.0 l ≡ l = sym (get_or-take count lengths among.0 l below) ∙ among.2 in
        let upto : get_or lengths among.0 l ≤ most = leb-true _ most (parts.0 among.0 l (omega arith) below) in
        ((among.0, inside, at), omega arith)

    front : Contains lengths l → l ≤ most → Contains (take count lengths) l
    front among upto = ⊎_elim
        (λ (below : among.0 < count).
        let inside : among.0 < length (take count lengths) = omega (arith, length-take count lengths) in
        (among.0, inside, get_or-take count lengths among.0 l below ∙ among.2))
        (λ (behind : count ≤ among.0).
        let above : most < get_or lengths among.0 l = leb-false _ most (parts.1 among.0 l behind among.1) in
        let at : get_or lengths among.0 l ≡ l = among.2 in
        absurd (omega arith))
        (cases_lt among.0 count)

-- between the lengths up to the most and all lengths
pub Any-from_upto : (P : ℕ → Type 0) (lengths upto : List ℕ) (most : ℕ) → AreUpto lengths most upto → Any P upto
    → Any (λ l. (l ≤ most) × P l) lengths
Any-from_upto P lengths upto most are any =
    let both = (are any.1).0 (any.0, any.2, any.3) in
    Any-contains (λ l. (l ≤ most) × P l) lengths any.1 both.0 (both.1, any.4)

pub Any-upto : (P : ℕ → Type 0) (lengths upto : List ℕ) (most : ℕ) → AreUpto lengths most upto
    → Any (λ l. (l ≤ most) × P l) lengths → Any P upto
Any-upto P lengths upto most are any = Any-contains P upto any.1 ((are any.1).1 ((any.0, any.2, any.3), any.4.0)) any.4.1

-- the first place of the counts so far, and of one more
pub IsFirstPlace-next : (Q : ℕ → ℕ → Type 0) (low high : ℕ) (counts : List ℕ) (i d : ℕ) (a b : Option ℕ) → i < length counts
    → IsFirstPlace (λ n. Any (Q n) (take i counts)) low high a → IsFirstPlace (λ n. Q n (get_or counts i d)) low high b
    → IsFirstPlace (λ n. Any (Q n) (take (i + 1) counts)) low high (lesser_place a b)
IsFirstPlace-next Q low high counts i d a b within first next =
    let P : ℕ → Type 0 = λ n. Any (Q n) (take i counts) in
    let R : ℕ → Type 0 = λ n. Q n (get_or counts i d) in
    subst (λ l. IsFirstPlace (λ n. Any (Q n) l) low high (lesser_place a b)) (sym (take_more counts i d within))
    (IsFirstPlace-same (Either P R) (λ n. Any (Q n) (take i counts ++ get_or counts i d ∷ [])) low high (lesser_place a b)
    (λ n either. ⊎_elim (Any-append_left (Q n) (take i counts) (get_or counts i d ∷ []))
    (λ holds. Any-append_right (Q n) (take i counts) (get_or counts i d ∷ []) (Any-head (Q n) (get_or counts i d) [] holds)) either)
    (λ n any. ⊎_elim inl (λ last. inr (only_one (Q n) (get_or counts i d) last)) (Any-append_cases (Q n) (take i counts) (get_or counts i d ∷ []) any))
    (IsFirstPlace-either P R low high a b first next))
  where
    only_one : (S : ℕ → Type 0) (x : ℕ) → Any S (x ∷ []) → S x
    only_one S x any = ⊎_elim (λ holds. holds) (λ none. let within = none.2 in absurd (omega arith)) (Any-cons_cases S x [] any)

-- what holds of fewer spans
AnyIn-weaker : (wide : Wide) (key : ObjectKey) (scope : Option Scope) (P Q : OpaqueSpan → Type 0) → ((s : OpaqueSpan) → P s → Q s) → AnyIn wide key scope P → AnyIn wide key scope Q
AnyIn-weaker wide key None P Q weaker any = any
AnyIn-weaker wide key (Some scope) P Q weaker any =
    Any-weaker (λ count. (count ≤ length key.name) × Any P (spans_by wide scope key count)) (λ count. (count ≤ length key.name) × Any Q (spans_by wide scope key count))
    (lengths_of wide scope) (λ count both. (both.0, Any-weaker P Q (spans_by wide scope key count) weaker both.1)) any

pub AnyWide-weaker : (wide : Wide) (key : ObjectKey) (P Q : OpaqueSpan → Type 0) → ((s : OpaqueSpan) → P s → Q s) → AnyWide wide key P → AnyWide wide key Q
AnyWide-weaker wide key P Q weaker any = ⊎_elim
    (λ own. inl (AnyIn-weaker wide key (own_scope wide.numbers key) P Q weaker own))
    (λ rest. inr (AnyIn-weaker wide key (any_scope wide.numbers key) P Q weaker rest))
    any

-- such a span is in a folder
abbrev pub InFolder : Wide → (OpaqueSpan → Type 0) → Type 0
InFolder wide P = (span : OpaqueSpan) × (folder : Folder) × (Contains (items_at folder_order wide.spans folder) span) × P span

at_folder : (wide : Wide) (scope : Scope) (front : Option ℕ) (P : OpaqueSpan → Type 0) → Any P (spans_at wide scope front) → InFolder wide P
at_folder wide scope None P any = let within = any.2 in absurd (omega arith)
at_folder wide scope (Some front) P any = (any.1, record { scope = scope; front = front }, (any.0, any.2, any.3), any.4)

in_folder : (wide : Wide) (key : ObjectKey) (scope : Option Scope) (P : OpaqueSpan → Type 0) → AnyIn wide key scope P → InFolder wide P
in_folder wide key None P any = absurd any
in_folder wide key (Some scope) P any = at_folder wide scope (number_of wide.numbers (take any.1 key.name)) P any.4.1

pub AnyWide-folder : (wide : Wide) (key : ObjectKey) (P : OpaqueSpan → Type 0) → AnyWide wide key P → InFolder wide P
AnyWide-folder wide key P any = ⊎_elim (in_folder wide key (own_scope wide.numbers key) P) (in_folder wide key (any_scope wide.numbers key) P) any

-- numbers that are kept keep what is found by them
scope_kept : (g r : Option ℕ) (n : Option (Option ℕ)) (g2 r2 : Option ℕ) (n2 : Option (Option ℕ)) → ((x : ℕ) → g ≡ Some x → g2 ≡ Some x) → ((x : ℕ) → r ≡ Some x → r2 ≡ Some x)
    → ((x : Option ℕ) → n ≡ Some x → n2 ≡ Some x) → (scope : Scope) → scope_from g r n ≡ Some scope → scope_from g2 r2 n2 ≡ Some scope
scope_kept None r n g2 r2 n2 kg kr kn scope is = absurd (none-some scope is)
scope_kept (Some g) None n g2 r2 n2 kg kr kn scope is = absurd (none-some scope is)
scope_kept (Some g) (Some r) None g2 r2 n2 kg kr kn scope is = absurd (none-some scope is)
scope_kept (Some g) (Some r) (Some n) g2 r2 n2 kg kr kn scope is =
    ap (λ x. scope_from x r2 n2) (kg g refl) ∙ ap (λ x. scope_from (Some g) x n2) (kr r refl) ∙ ap (λ x. scope_from (Some g) (Some r) x) (kn n refl) ∙ is

some_kept : (o p : Option ℕ) → ((x : ℕ) → o ≡ Some x → p ≡ Some x) → (x : Option ℕ) → option_map Some o ≡ Some x → option_map Some p ≡ Some x
some_kept None p kept x is = absurd (none-some x is)
some_kept (Some n) p kept x is = ap (option_map Some) (kept n refl) ∙ is

module _ (old new : Wide) (scope : Scope) (front : ℕ) (span : OpaqueSpan) (count : ℕ)
    (extends : Extends old.numbers new.numbers) (lengths : AddsAt scope_order old.lengths new.lengths scope count)
    (spans : AddsAt folder_order old.spans new.spans (record { scope = scope; front = front }) span) where
  at_kept : (s : Scope) (o n : Option ℕ) (P : OpaqueSpan → Type 0) → ((x : ℕ) → o ≡ Some x → n ≡ Some x) → Any P (spans_at old s o) → Any P (spans_at new s n)
  at_kept s None n P kept any = let within = any.2 in absurd (omega arith)
  at_kept s (Some f) n P kept any =
      subst (λ o. Any P (spans_at new s o)) (sym (kept f refl))
      (Any-contains P (spans_at new s (Some f)) any.1 (spans.kept (record { scope = s; front = f }) any.1 (any.0, any.2, any.3)) any.4)

  scoped_kept : (s : Scope) (key : ObjectKey) (P : OpaqueSpan → Type 0) → AnyIn old key (Some s) P → AnyIn new key (Some s) P
  scoped_kept s key P any =
      Any-contains (λ n. (n ≤ length key.name) × Any P (spans_by new s key n)) (lengths_of new s) any.1
      (lengths.kept s any.1 (any.0, any.2, any.3))
      (any.4.0, at_kept s (number_of old.numbers (take any.1 key.name)) (number_of new.numbers (take any.1 key.name)) P (extends (take any.1 key.name)) any.4.1)

  in_kept : (key : ObjectKey) (o n : Option Scope) (P : OpaqueSpan → Type 0) → ((s : Scope) → o ≡ Some s → n ≡ Some s) → AnyIn old key o P → AnyIn new key n P
  in_kept key None n P kept any = absurd any
  in_kept key (Some s) n P kept any = subst (λ o. AnyIn new key o P) (sym (kept s refl)) (scoped_kept s key P any)

  wide_kept : (key : ObjectKey) (P : OpaqueSpan → Type 0) → AnyWide old key P → AnyWide new key P
  wide_kept key P any = ⊎_elim
      (λ own. inl (in_kept key (own_scope old.numbers key) (own_scope new.numbers key) P
      (scope_kept _ _ _ _ _ _ (extends key.group) (extends key.resource) (some_kept _ _ (extends key.namespace))) own))
      (λ rest. inr (in_kept key (any_scope old.numbers key) (any_scope new.numbers key) P
      (scope_kept _ _ _ _ _ _ (extends key.group) (extends key.resource) (λ x is. is)) rest))
      any

-- the front of a name that is taken
front_within : (name : CoverName) (text : List ℕ) → TakesName name text → length (front_of name) ≤ length text
front_within (Exact given) text takes = let same : length text ≡ length given = ap length takes in omega arith
front_within (Prefix front) text takes = let same : length text ≡ length (front ++ takes.0) = ap length takes.1 in omega (arith, length-append front takes.0)
front_within AnyName text takes = omega arith

take_front : (name : CoverName) (text : List ℕ) → TakesName name text → take (length (front_of name)) text ≡ front_of name
take_front (Exact given) text takes = ap (take (length given)) takes ∙ take_all (length given) given (omega arith)
take_front (Prefix front) text takes = ap (take (length front)) takes.1 ∙ take-append-le (length front) front takes.0 (omega arith) ∙ take_all (length front) front (omega arith)
take_front AnyName text takes = refl

-- the scope of a key that is covered
scope_found : {A : Type 0} (numbers : BTreeMap (Vec ℕ A) ℕ) (key : ObjectKey) (group resource : ℕ) (namespace : Option ℕ) (given : Option (List ℕ)) → number_of numbers key.group ≡ Some group
    → number_of numbers key.resource ≡ Some resource → IsNumbered numbers given namespace → MatchOption given (Unit {0}) (λ text. key.namespace ≡ text)
    → (own_scope numbers key ≡ Some (record { group = group; resource = resource; namespace = namespace }))
    ⊎ (any_scope numbers key ≡ Some (record { group = group; resource = resource; namespace = namespace }))
scope_found numbers key group resource None None of_group of_resource numbered named =
    inr (ap (λ x. scope_from x (number_of numbers key.resource) (Some None)) of_group ∙ ap (λ x. scope_from (Some group) x (Some None)) of_resource)
scope_found numbers key group resource (Some n) None of_group of_resource numbered named = absurd numbered
scope_found numbers key group resource None (Some text) of_group of_resource numbered named = absurd numbered
scope_found numbers key group resource (Some n) (Some text) of_group of_resource numbered named =
    inl (ap (λ x. scope_from x (number_of numbers key.resource) (option_map Some (number_of numbers key.namespace))) of_group
    ∙ ap (λ x. scope_from (Some group) x (option_map Some (number_of numbers key.namespace))) of_resource
    ∙ ap (λ x. scope_from (Some group) (Some resource) (option_map Some x)) (ap (number_of numbers) named ∙ numbered))

pub AddsWide-made : (old new : Wide) (span : OpaqueSpan) (scope : Scope) (front : ℕ) → Extends old.numbers new.numbers → number_of new.numbers span.cover.group ≡ Some scope.group
    → number_of new.numbers span.cover.resource ≡ Some scope.resource → IsNumbered new.numbers span.cover.namespace scope.namespace
    → number_of new.numbers (front_of span.cover.name) ≡ Some front → AddsAt scope_order old.lengths new.lengths scope (length (front_of span.cover.name))
    → AddsAt folder_order old.spans new.spans (record { scope = scope; front = front }) span → AddsWide old new span
AddsWide-made old new span scope front extends of_group of_resource of_namespace of_front lengths spans = record {
  kept = λ key other any. wide_kept old new scope front span (length (front_of span.cover.name)) extends lengths spans key (λ s. s ≡ other) any;
  added = λ key covers. ⊎_elim
      (λ is. inl (subst (λ s. AnyIn new key s (λ s. s ≡ span)) (sym is) (here key covers)))
      (λ is. inr (subst (λ s. AnyIn new key s (λ s. s ≡ span)) (sym is) (here key covers)))
      (scope_found new.numbers key scope.group scope.resource scope.namespace span.cover.namespace (ap (number_of new.numbers) covers.group ∙ of_group)
      (ap (number_of new.numbers) covers.resource ∙ of_resource) of_namespace covers.namespace);
  only = λ folder other among. ⊎_elim (λ before. inl before) (λ both. inr both.1) (spans.only folder other among);
}
  where
    here : (key : ObjectKey) → Covers span.cover key → AnyIn new key (Some scope) (λ s. s ≡ span)
    here key covers =
        Any-contains (λ n. (n ≤ length key.name) × Any (λ s. s ≡ span) (spans_by new scope key n)) (lengths_of new scope) (length (front_of span.cover.name))
        lengths.added (
          front_within span.cover.name key.name covers.name,
          subst (λ o. Any (λ s. s ≡ span) (spans_at new scope o)) (sym (ap (number_of new.numbers) (take_front span.cover.name key.name covers.name) ∙ of_front))
              (Any-contains (λ s. s ≡ span) (spans_at new scope (Some front)) span spans.added refl),
        )

-- scopes are ordered
pub scope_order_total : IsTotalOrder scope_order
scope_order_total = then_total (on_total (λ (s : Scope). s.group) nat_cmp_total)
    (then_total (on_total (λ (s : Scope). s.resource) nat_cmp_total) (on_total (λ (s : Scope). s.namespace) (options_total nat_cmp_total)))
