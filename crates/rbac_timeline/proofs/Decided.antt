-- Each object has a state that grants least and one that grants most.
use Rattle.std.proofs.Common.{◌≡◌, ℕ, zero, suc, ◌<◌, ◌≤◌, ◌⊎◌, ⊎_elim, inl, inr, Option, Some, None, List, [], ◌∷◌, ◌++◌, length, get_or, drop, refl, sym, ◌∙◌, subst, ap, arith}
use Rattle.std.specs.List.{Any, Contains}
use Rattle.std.specs.Option.{MatchOption}
use Rattle.std.proofs.lemmas.Bool.{cases_eq, cases_lt}
use Rattle.base_types.proofs.Quantifiers.{Any-contains, Any-head, Any-tail}
use Rattle.base_types.specs.Covers.{Covers, TakesName}
use Rattle.base_types.specs.declared.kubernetes.key.Cover.{Cover}
use Rattle.base_types.specs.declared.kubernetes.key.CoverName.{CoverName}
use Rattle.base_types.specs.declared.kubernetes.key.CoverName.TheVariants.{Exact, Prefix, Any as AnyName}
use Rattle.base_types.specs.declared.kubernetes.key.ObjectKey.{ObjectKey}
use Rattle.base_types.proofs.KeyLemmas.{key_from_parts}
use Rattle.clouds.proofs.Quantified.{Any-cons_cases}
use Rattle.clouds.specs.Clouds.{IsClouded, IsHiddenBy}
use Rattle.clouds.specs.Writes.{Writes}
use Rattle.clouds.specs.declared.span.KeyRevision.{KeyRevision}
use Rattle.clouds.specs.declared.span.OpaqueSpan.{OpaqueSpan}
use Rattle.rbac_timeline.specs.declared.version.RbacVersion.{RbacVersion}
use Rattle.rbac_timeline.specs.States.{IsLatestVersion, NoneUpto}

-- it holds, or it doesn't
abbrev pub Decided : Type 0 → Type 0
Decided P = P ⊎ (P → ⊥)

pub decide_any : {X : Type 0} (P : X → Type 0) → ((x : X) → Decided (P x)) → (xs : List X) → Decided (Any P xs)
decide_any P decide [] = inr (λ any. let within = any.2 in omega arith)
decide_any P decide (x ∷ xs) = ⊎_elim
    (λ here. inl (Any-head P x xs here))
    (λ not_here. ⊎_elim
    (λ there. inl (Any-tail P x xs there))
    (λ not_there. inr (λ any. ⊎_elim not_here not_there (Any-cons_cases P x xs any)))
    (decide_any P decide xs))
    (decide x)

pub decide_each : {X : Type 0} (P : X → Type 0) → ((x : X) → Decided (P x)) → (xs : List X) → Decided ((x : X) → Contains xs x → P x)
decide_each {X} P decide xs = ⊎_elim
    (λ fails. inr (λ each. fails.4 (each fails.1 (fails.0, fails.2, fails.3))))
    (λ none. inl (λ x among. ⊎_elim (λ holds. holds) (λ not. absurd (none (Any-contains (λ y. P y → ⊥) xs x among not))) (decide x)))
    (decide_any (λ y. P y → ⊥) (λ y. ⊎_elim (λ holds. inr (λ not. not holds)) (λ not. inl not) (decide y)) xs)

pub decide_text : (a b : List ℕ) → Decided (a ≡ b)
decide_text [] [] = inl refl
decide_text [] (y ∷ ys) = inr (λ e. let n : 0 ≡ length (y ∷ ys) = ap (λ (l : List ℕ). length l) e in omega arith)
decide_text (x ∷ xs) [] = inr (λ e. let n : length (x ∷ xs) ≡ 0 = ap (λ (l : List ℕ). length l) e in omega arith)
decide_text (x ∷ xs) (y ∷ ys) = ⊎_elim
    (λ head. ⊎_elim
    (λ tail. inl (ap (λ z. z ∷ xs) head ∙ ap (λ l. y ∷ l) tail))
    (λ not. inr (λ e. not (ap (λ (l : List ℕ). drop 1 l) e)))
    (decide_text xs ys))
    (λ not. inr (λ e. not (ap (λ (l : List ℕ). get_or l 0 0) e)))
    (cases_eq x y)

pub decide_key : (a b : ObjectKey) → Decided (a ≡ b)
decide_key a b = ⊎_elim
    (λ group. ⊎_elim
    (λ resource. ⊎_elim
    (λ namespace. ⊎_elim
    (λ name. inl (key_from_parts a b group resource namespace name))
    (λ not. inr (λ e. not (ap (λ (k : ObjectKey). k.name) e)))
    (decide_text a.name b.name))
    (λ not. inr (λ e. not (ap (λ (k : ObjectKey). k.namespace) e)))
    (decide_text a.namespace b.namespace))
    (λ not. inr (λ e. not (ap (λ (k : ObjectKey). k.resource) e)))
    (decide_text a.resource b.resource))
    (λ not. inr (λ e. not (ap (λ (k : ObjectKey). k.group) e)))
    (decide_text a.group b.group)

decide_front : (front text : List ℕ) → Decided ((rest : List ℕ) × (text ≡ front ++ rest))
decide_front [] text = inl (text, refl)
decide_front (x ∷ front) [] = inr (λ found. let n : 0 ≡ length (x ∷ front ++ found.0) = ap (λ (l : List ℕ). length l) found.1 in omega arith)
decide_front (x ∷ front) (y ∷ text) = ⊎_elim
    (λ head. ⊎_elim
    (λ found. inl (found.0, ap (λ z. z ∷ text) head ∙ ap (λ l. x ∷ l) found.1))
    (λ not. inr (λ found. not (found.0, ap (λ (l : List ℕ). drop 1 l) found.1)))
    (decide_front front text))
    (λ not. inr (λ found. not (ap (λ (l : List ℕ). get_or l 0 0) found.1)))
    (cases_eq y x)

decide_name : (name : CoverName) (text : List ℕ) → Decided (TakesName name text)
decide_name (Exact given) text = decide_text text given
decide_name (Prefix front) text = decide_front front text
decide_name AnyName text = inl tt

decide_namespace : (namespace : Option (List ℕ)) (text : List ℕ) → Decided (MatchOption namespace (Unit {0}) (λ given. text ≡ given))
decide_namespace None text = inl tt
decide_namespace (Some given) text = decide_text text given

pub decide_covers : (cover : Cover) (key : ObjectKey) → Decided (Covers cover key)
decide_covers cover key = ⊎_elim
    (λ group. ⊎_elim
    (λ resource. ⊎_elim
    (λ namespace. ⊎_elim
    (λ name. inl (record { group = group; resource = resource; namespace = namespace; name = name }))
    (λ not. inr (λ covers. not covers.name))
    (decide_name cover.name key.name))
    (λ not. inr (λ covers. not covers.namespace))
    (decide_namespace cover.namespace key.namespace))
    (λ not. inr (λ covers. not covers.resource))
    (decide_text key.resource cover.resource))
    (λ not. inr (λ covers. not covers.group))
    (decide_text key.group cover.group)

-- a revision of the key behind `high` is above the place
abbrev Unseen : ObjectKey → ℕ → ℕ → KeyRevision → Type 0
Unseen key high place r = r.key ≡ key → high < r.revision → place < r.revision

decide_unseen : (key : ObjectKey) (high place : ℕ) (r : KeyRevision) → Decided (Unseen key high place r)
decide_unseen key high place r = ⊎_elim
    (λ above. inl (λ of_key behind. above))
    (λ (upto : r.revision ≤ place). ⊎_elim
    (λ (behind : high < r.revision). ⊎_elim
    (λ of_key. inr (λ unseen. let above : place < r.revision = unseen of_key behind in omega arith))
    (λ not. inl (λ of_key behind. absurd (not of_key)))
    (decide_key r.key key))
    (λ (before : r.revision ≤ high). inl (λ of_key (behind : high < r.revision). absurd (omega arith)))
    (cases_lt high r.revision))
    (cases_lt place r.revision)

decide_hidden : (revisions : List KeyRevision) (key : ObjectKey) (place : ℕ) (span : OpaqueSpan) → Decided (IsHiddenBy revisions key place span)
decide_hidden revisions key place span = ⊎_elim
    (λ covers. ⊎_elim
    (λ begun. ⊎_elim
    (λ unseen. inl (record { hides = covers; begun = begun; unseen = unseen }))
    (λ not. inr (λ hidden. not hidden.unseen))
    (decide_each (Unseen key span.high place) (decide_unseen key span.high place) revisions))
    (λ (not : place ≤ span.low). inr (λ hidden. let begun = hidden.begun in omega arith))
    (cases_lt span.low place))
    (λ not. inr (λ hidden. not hidden.hides))
    (decide_covers span.cover key)

pub decide_clouded : (writes : Writes) (key : ObjectKey) (place : ℕ) → Decided (IsClouded writes key place)
decide_clouded writes key place = decide_any (IsHiddenBy writes.revisions key place) (decide_hidden writes.revisions key place) writes.spans

contained_tail : (v w : RbacVersion) (vs : List RbacVersion) → Contains vs w → Contains (v ∷ vs) w
contained_tail v w vs among = (suc among.0, (let within = among.1 in omega arith), among.2)

contained_cases : (v w : RbacVersion) (vs : List RbacVersion) → Contains (v ∷ vs) w → (v ≡ w) ⊎ Contains vs w
contained_cases v w vs among = go among.0 among.1 among.2
  where
    go : (k : ℕ) → k < length (v ∷ vs) → get_or (v ∷ vs) k w ≡ w → (v ≡ w) ⊎ Contains vs w
    go zero within is = inl is
    go (suc k) within is = inr (k, omega arith, is)

-- the version doesn't count: it is of another key, or above the place
skipped : (v : RbacVersion) (vs : List RbacVersion) (key : ObjectKey) (place : ℕ) → (v.key ≡ key → v.revision ≤ place → ⊥)
    → ((w : RbacVersion) × IsLatestVersion vs key place w) ⊎ NoneUpto vs key place → ((w : RbacVersion) × IsLatestVersion (v ∷ vs) key place w) ⊎ NoneUpto (v ∷ vs) key place
skipped v vs key place not (inl found) = inl (
  found.0,
  record {
    known = contained_tail v found.0 vs found.1.known;
    of_key = found.1.of_key;
    upto = found.1.upto;
    latest = λ w among of_key upto. ⊎_elim
        (λ is. absurd (not (ap (λ (x : RbacVersion). x.key) is ∙ of_key) (subst (λ (x : RbacVersion). x.revision ≤ place) (sym is) upto)))
        (λ later. found.1.latest w later of_key upto)
        (contained_cases v w vs among);
  },
)
skipped v vs key place not (inr none) = inr (λ w among of_key. ⊎_elim
    (λ is. ⊎_elim
    (λ above. above)
    (λ upto. absurd (not (ap (λ (x : RbacVersion). x.key) is ∙ of_key) (subst (λ (x : RbacVersion). x.revision ≤ place) (sym is) upto)))
    (cases_lt place w.revision))
    (λ later. none w later of_key)
    (contained_cases v w vs among))

counted : (v : RbacVersion) (vs : List RbacVersion) (key : ObjectKey) (place : ℕ) → v.key ≡ key → v.revision ≤ place
    → ((w : RbacVersion) × IsLatestVersion vs key place w) ⊎ NoneUpto vs key place → (w : RbacVersion) × IsLatestVersion (v ∷ vs) key place w
counted v vs key place of_key upto (inr none) = (
  v,
  record {
    known = (0, omega arith, refl);
    of_key = of_key;
    upto = upto;
    latest = λ w among w_key w_upto. ⊎_elim
        (λ is. let same : v.revision ≡ w.revision = ap (λ (x : RbacVersion). x.revision) is in omega arith)
        (λ later. let above = none w later w_key in absurd (omega arith))
        (contained_cases v w vs among);
  },
)
counted v vs key place of_key upto (inl found) = ⊎_elim
    (λ (less : v.revision < found.0.revision). (
      found.0,
      record {
        known = contained_tail v found.0 vs found.1.known;
        of_key = found.1.of_key;
        upto = found.1.upto;
        latest = λ w among w_key w_upto. ⊎_elim
            (λ is. let same : v.revision ≡ w.revision = ap (λ (x : RbacVersion). x.revision) is in omega arith)
            (λ later. found.1.latest w later w_key w_upto)
            (contained_cases v w vs among);
      },
    ))
    (λ (more : found.0.revision ≤ v.revision). (
      v,
      record {
        known = (0, omega arith, refl);
        of_key = of_key;
        upto = upto;
        latest = λ w among w_key w_upto. ⊎_elim
            (λ is. let same : v.revision ≡ w.revision = ap (λ (x : RbacVersion). x.revision) is in omega arith)
            (λ later. let bound = found.1.latest w later w_key w_upto in omega arith)
            (contained_cases v w vs among);
      },
    ))
    (cases_lt v.revision found.0.revision)

pub latest_or_none : (versions : List RbacVersion) (key : ObjectKey) (place : ℕ) → ((w : RbacVersion) × IsLatestVersion versions key place w) ⊎ NoneUpto versions key place
latest_or_none [] key place = inr (λ v among of_key. let within = among.1 in absurd (omega arith))
latest_or_none (v ∷ vs) key place = ⊎_elim
    (λ of_key. ⊎_elim
    (λ (above : place < v.revision). skipped v vs key place (λ is upto. omega arith) (latest_or_none vs key place))
    (λ upto. inl (counted v vs key place of_key upto (latest_or_none vs key place)))
    (cases_lt place v.revision))
    (λ not. skipped v vs key place (λ is upto. not is) (latest_or_none vs key place))
    (decide_key v.key key)
