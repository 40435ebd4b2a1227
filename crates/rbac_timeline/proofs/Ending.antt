-- The last place at which a version may be there.
use Rattle.std.proofs.Common.{◌≡◌, ℕ, ◌+◌, ◌<◌, ◌≤◌, ⊎_elim, Option, Some, None, List, [], ◌∷◌, ◌++◌, length, get_or, take, refl, sym, subst, ap, arith}
use Rattle.std.specs.Prelude.{⊤, MatchOption, min}
use Rattle.std.specs.List.{Any, Contains}
use Rattle.std.specs.List.Sorted.{IsPermutation}
use Rattle.std.specs.Option.{IfSome}
use Rattle.std.proofs.lemmas.List.{take_all}
use Rattle.std.proofs.lemmas.List.Elements.{Contains-push_cases}
use Rattle.std.proofs.lemmas.List.Sorted.{Contains-permutation, IsPermutation-sym}
use Rattle.base_types.proofs.Quantifiers.{Any-head, Any-permutation}
use Rattle.clouds.proofs.Quantified.{Any-append_left, Any-append_right}
use denote.Ref.{Bor}
use Rattle.rbac_timeline.specs.declared.begun.Begun.{Begun}
use Rattle.rbac_timeline.specs.declared.history.Gap.{Gap}
use Rattle.rbac_timeline.specs.declared.version.RbacEnd.{RbacEnd}
use Rattle.rbac_timeline.specs.declared.version.RbacVersion.{RbacVersion}
use Rattle.rbac_timeline.specs.Kept.{IsRemovalOf}
use Rattle.rbac_timeline.specs.Reigning.{AreBegun, LastsUpto}
use Rattle.rbac_timeline.specs.States.{IsEndOf, IsLatestVersion}
use Rattle.rbac_timeline.specs.Unsure.{last_place}
use Rattle.rbac_timeline.proofs.Gathering.{front_more}

next_bound : (versions : List RbacVersion) (version : RbacVersion) (place : ℕ) (next : Option (Bor RbacVersion)) → IfSome next (λ n. Contains versions n.now) → IsLatestVersion versions version.key place version
    → MatchOption next ⊤ (λ n. n.now.key ≡ version.key → n.now.revision ≤ place → n.now.revision ≤ version.revision)
next_bound versions version place None among latest = tt
next_bound versions version place (Some n) among latest = λ of_key upto. latest.latest n.now among of_key upto

gap_bound : (ends : List RbacEnd) (version : RbacVersion) (place : ℕ) (gap : Option Gap) → IsRemovalOf ends version.key version.revision gap → ((end : RbacEnd) → IsEndOf ends version end → place < end.high)
    → MatchOption gap ⊤ (λ g. place < g.high)
gap_bound ends version place None removal before = tt
gap_bound ends version place (Some gap) removal before =
    let found = removal version refl refl in
    subst (λ (n : ℕ). place < n) (sym (ap (λ (g : Gap). g.high) found.2)) (before found.0 found.1)

pub LastsUpto-min : (versions : List RbacVersion) (ends : List RbacEnd) (version : RbacVersion) (next : Option (Bor RbacVersion)) (gap : Option Gap) (a b : ℕ) → IfSome next (λ n. Contains versions n.now)
    → IsRemovalOf ends version.key version.revision gap
    → ((place : ℕ) → place ≤ last_place → MatchOption next ⊤ (λ n. n.now.key ≡ version.key → n.now.revision ≤ place → n.now.revision ≤ version.revision) → place ≤ a)
    → ((place : ℕ) → place ≤ last_place → MatchOption gap ⊤ (λ g. place < g.high) → place ≤ b) → LastsUpto versions ends version (min a b)
LastsUpto-min versions ends version next gap a b among removal upto_a upto_b = λ place fits latest before.
    let in_a : place ≤ a = upto_a place fits (next_bound versions version place next among latest) in
    let in_b : place ≤ b = upto_b place fits (gap_bound ends version place gap removal before) in
    omega arith

-- the versions so far
pub record AreBegunTo (versions : List RbacVersion) (ends : List RbacEnd) (i : ℕ) (all : List Begun) : Type 0 where
  pub known : (begun : Begun) → Contains all begun → Contains versions begun.version.now
  pub last : (begun : Begun) → Contains all begun → LastsUpto versions ends begun.version.now begun.last
  pub full : (version : RbacVersion) → Contains (take i versions) version → Any (λ begun. begun.version.now ≡ version) all

in_nothing : {X : Type 0} (x : X) → Contains [] x → ⊥
in_nothing x among = let within = among.1 in omega arith

pub AreBegunTo-none : (versions : List RbacVersion) (ends : List RbacEnd) → AreBegunTo versions ends 0 []
AreBegunTo-none versions ends = record {
  known = λ begun among. absurd (in_nothing begun among);
  last = λ begun among. absurd (in_nothing begun among);
  full = λ version among. absurd (in_nothing version among);
}

pub AreBegunTo-more : (versions : List RbacVersion) (ends : List RbacEnd) (i : ℕ) (all : List Begun) (begun : Begun) → i < length versions → begun.version.now ≡ get_or versions i begun.version.now
    → LastsUpto versions ends begun.version.now begun.last → AreBegunTo versions ends i all → AreBegunTo versions ends (i + 1) (all ++ begun ∷ [])
AreBegunTo-more versions ends i all begun within is last are = record {
  known = λ b among. ⊎_elim
      (λ before. are.known b before)
      (λ same. subst (λ (x : Begun). Contains versions x.version.now) same (i, within, sym is))
      (Contains-push_cases all begun b among);
  last = λ b among. ⊎_elim
      (λ before. are.last b before)
      (λ same. subst (λ (x : Begun). LastsUpto versions ends x.version.now x.last) same last)
      (Contains-push_cases all begun b among);
  full = λ version among. ⊎_elim
      (λ before. Any-append_left (λ (b : Begun). b.version.now ≡ version) all (begun ∷ []) (are.full version before))
      (λ same. Any-append_right (λ (b : Begun). b.version.now ≡ version) all (begun ∷ []) (Any-head (λ (b : Begun). b.version.now ≡ version) begun [] same))
      (Contains-push_cases (take i versions) begun.version.now version (subst (λ l. Contains l version) (front_more versions i begun.version.now within is) among));
}

pub AreBegun-all : (versions : List RbacVersion) (ends : List RbacEnd) (i : ℕ) (all : List Begun) → length versions ≤ i → AreBegunTo versions ends i all → AreBegun versions ends all
AreBegun-all versions ends i all end are = record {
  known = are.known;
  last = are.last;
  full = λ version among. are.full version (subst (λ l. Contains l version) (sym (take_all i versions end)) among);
}

pub AreBegun-permuted : (versions : List RbacVersion) (ends : List RbacEnd) (all others : List Begun) → IsPermutation all others → AreBegun versions ends all → AreBegun versions ends others
AreBegun-permuted versions ends all others same are = record {
  known = λ begun among. are.known begun (Contains-permutation others all begun (IsPermutation-sym all others same) among);
  last = λ begun among. are.last begun (Contains-permutation others all begun (IsPermutation-sym all others same) among);
  full = λ version among. Any-permutation (λ (b : Begun). b.version.now ≡ version) all others same (are.full version among);
}
