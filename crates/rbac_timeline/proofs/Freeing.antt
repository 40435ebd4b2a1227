-- With the role bindings at one place, roles and cluster roles have least places of their own.
use Rattle.std.proofs.Common.{◌≡◌, ℕ, ◌+◌, ◌<◌, ◌≤◌, ◌⊎◌, ⊎_elim, inl, inr, min, true, false, Option, Some, None, sym, subst, arith}
use Rattle.std.specs.Option.{MatchOption, is_some}
use Rattle.std.proofs.lemmas.Bool.{cases_lt, false≢true}
use Rattle.base_types.specs.PlaceOrder.{ComesFirst}
use Rattle.base_types.specs.declared.verdict.placed.Places.{Places}
use Rattle.base_types.specs.declared.kubernetes.request.RequestAttrs.{RequestAttrs}
use Rattle.base_types.specs.declared.kubernetes.request.User.{User}
use Rattle.clouds.specs.FirstPlace.{HoldsNowhere, IsLeastPlace}
use Rattle.rbac_timeline.specs.declared.lasting.Until.{Until}
use Rattle.rbac_timeline.specs.declared.search.RoleCache.TheVariants.{Cluster, Plain}
use Rattle.rbac_timeline.specs.Decisions.{AreWithin}
use Rattle.rbac_timeline.specs.Freed.{AreFirstFrom, IsBarred, IsBarredClusterRole, IsFreed, IsWithin}
use Rattle.rbac_timeline.specs.Known.{Known}
use Rattle.rbac_timeline.specs.Lasting.{HoldsUntil, LastsUntil}
use Rattle.rbac_timeline.specs.Searched.{AreFirstOf, IsFreeAt, IsFreeCluster, lesser_places}
use Rattle.rbac_timeline.proofs.Comparing.{AreFirstOf-lesser_places}
use Rattle.rbac_timeline.proofs.Throughout.{AreBarred, AreBarred-all, AreBarred-more, HoldsUntil-map}

-- the two caches the other way round
abbrev turned : Until → Until
turned until = record { first = until.second; second = until.first }

HoldsUntil-turned : (P : ℕ → ℕ → Type 0) (first second high : ℕ) (until : Until) → HoldsUntil P first second high until → HoldsUntil (λ b a. P a b) second first high (turned until)
HoldsUntil-turned P first second high until holds = record {
  first_from = holds.second_from;
  first_upto = holds.second_upto;
  second_from = holds.first_from;
  second_upto = holds.first_upto;
  throughout = λ b a b_from b_upto a_from a_upto. holds.throughout a b a_from a_upto b_from b_upto;
}

-- a search of roles goes on, ends at a place, or ends behind the last one
module _ (barred : ℕ → ℕ → Type 0) (bindings low high : ℕ) where
  -- all roles below this place are barred, with the role bindings up to another
  abbrev pub AreRolesBarred : ℕ → ℕ → Type 0
  AreRolesBarred place last = AreBarred (λ binding role. barred role binding) bindings low high place last

  pub AreRolesBarred-more : (place last next : ℕ) (until : Until) → next ≡ min last until.second → until.first < high → AreRolesBarred place last → HoldsUntil barred place bindings high until
      → AreRolesBarred (until.first + 1) next
  AreRolesBarred-more place last next until is before so_far block =
      AreBarred-more (λ binding role. barred role binding) bindings low high place last next (turned until) is before so_far (HoldsUntil-turned barred place bindings high until block)

  pub IsFreed-found : (place last : ℕ) → AreRolesBarred place last → (barred place bindings → ⊥) → IsFreed barred bindings low high (Some place) last
  IsFreed-found place last so_far free = record { below = so_far.below; here = (so_far.from, (so_far.upto, free)) }

  pub IsFreed-none : (place last next : ℕ) (until : Until) → next ≡ min last until.second → high ≤ until.first → AreRolesBarred place last → HoldsUntil barred place bindings high until
      → IsFreed barred bindings low high None next
  IsFreed-none place last next until is past so_far block = record {
    below = AreBarred-all (λ binding role. barred role binding) bindings low high place last next (turned until) is past so_far (HoldsUntil-turned barred place bindings high until block);
    here = tt;
  }

-- a range in which some place lies has its first place not behind its last one
pub IsWithin-range : (low high place : ℕ) → IsWithin low high place → low ≤ high
IsWithin-range low high place within =
    let from : low ≤ place = within.from in
    let upto : place ≤ high = within.upto in
    omega arith

-- the nearer one of the places up to which two caches of roles were searched
pub IsWithin-nearer : (P Q : ℕ → ℕ → Type 0) (bindings low high : ℕ) (p q : Option ℕ) (a b last : ℕ) → last ≡ min a b → IsFreed P bindings low high p a → IsFreed Q bindings low high q b
    → IsWithin bindings high last
IsWithin-nearer P Q bindings low high p q a b last is p_freed q_freed =
    let a_from : bindings ≤ a = p_freed.below.from in
    let a_upto : a ≤ high = p_freed.below.upto in
    let b_from : bindings ≤ b = q_freed.below.from in
    record { from = omega arith; upto = omega arith }

-- where something lasts, or nothing is there
pub bar_some : (P Q : ℕ → ℕ → Type 0) (first second high : ℕ) (until : Option Until) → is_some until ≡ true → ((a b : ℕ) → P a b → Q a b) → LastsUntil P first second high until → LastsUntil Q first second high until
bar_some P Q first second high None some forth none = absurd (false≢true some)
bar_some P Q first second high (Some until) some forth lasts = HoldsUntil-map P Q first second high until forth lasts

pub bar_none : (P : ℕ → ℕ → Type 0) (first second high : ℕ) (until : Option Until) → is_some until ≡ false → LastsUntil P first second high until → P first second → ⊥
bar_none P first second high None empty none = none
bar_none P first second high (Some until) empty lasts = absurd (false≢true (sym empty))

pub AreFirstOf-map : (P Q : Places → Type 0) (low high : ℕ) (places : Option Places) → ((p : Places) → P p → Q p) → ((p : Places) → AreWithin low high p → Q p → P p) → AreFirstOf P low high places
    → AreFirstOf Q low high places
AreFirstOf-map P Q low high None forth back none = λ p within holds. none p within (back p within holds)
AreFirstOf-map P Q low high (Some places) forth back found = record {
  within = found.within;
  here = forth places found.here;
  least = λ other within holds. found.least other within (back other within holds);
}

module _ (known : Known) (who : User) (attrs : RequestAttrs) (low high bindings : ℕ) where
  abbrev Free : Places → Type 0
  Free p = IsFreeAt known who attrs p

  pub none_by_roles : (last upto : ℕ) → last ≤ upto → IsFreed (IsBarred known who attrs low high Plain) bindings low high None upto → AreFirstFrom known who attrs low high bindings last None
  none_by_roles last upto within freed = λ p p_within holds.
      let free : Free p = holds.1.1 in
      let p_last : p.bindings ≤ last = holds.1.0 in
      free.0.0 (freed.below.throughout p.bindings holds.0 (omega arith) p.roles p_within.roles_from p_within.roles_upto)

  barred_not_free : (p : Places) → AreWithin low high p → Free p → IsBarredClusterRole known who attrs low high p.cluster_roles p.bindings → ⊥
  barred_not_free p within free (inl must) = free.0.1 must
  barred_not_free p within free (inr nowhere) = nowhere p.cluster_bindings within.cluster_bindings_from within.cluster_bindings_upto free.1

  pub none_by_cluster_roles : (last upto : ℕ) → last ≤ upto → IsFreed (IsBarred known who attrs low high Cluster) bindings low high None upto → AreFirstFrom known who attrs low high bindings last None
  none_by_cluster_roles last upto within freed = λ p p_within holds.
      let free : Free p = holds.1.1 in
      let p_last : p.bindings ≤ last = holds.1.0 in
      barred_not_free p p_within free (freed.below.throughout p.bindings holds.0 (omega arith) p.cluster_roles p_within.cluster_roles_from p_within.cluster_roles_upto)

  module _ (roles cluster_roles last role_last cluster_last : ℕ) (is : last ≡ min role_last cluster_last) (by_roles : IsFreed (IsBarred known who attrs low high Plain) bindings low high (Some roles) role_last)
      (by_cluster : IsFreed (IsBarred known who attrs low high Cluster) bindings low high (Some cluster_roles) cluster_last) where
    pub no_cluster_binding : HoldsNowhere (IsFreeCluster known who attrs cluster_roles) low high → ⊥
    no_cluster_binding nowhere = by_cluster.here.1.1 (inr nowhere)

    roles_upto : (p : Places) → AreWithin low high p → bindings ≤ p.bindings → p.bindings ≤ last → Free p → roles ≤ p.roles
    roles_upto p within from upto free = ⊎_elim
        (λ (less : p.roles < roles). absurd (free.0.0 (by_roles.below.throughout p.bindings from (omega arith) p.roles within.roles_from less)))
        (λ (more : roles ≤ p.roles). more)
        (cases_lt p.roles roles)

    cluster_upto : (p : Places) → AreWithin low high p → bindings ≤ p.bindings → p.bindings ≤ last → Free p → cluster_roles ≤ p.cluster_roles
    cluster_upto p within from upto free = ⊎_elim
        (λ (less : p.cluster_roles < cluster_roles). absurd (barred_not_free p within free (by_cluster.below.throughout p.bindings from (omega arith) p.cluster_roles within.cluster_roles_from less)))
        (λ (more : cluster_roles ≤ p.cluster_roles). more)
        (cases_lt p.cluster_roles cluster_roles)

    pub AreFirstFrom-found : (cluster_bindings : ℕ) → low ≤ bindings → bindings ≤ high → IsLeastPlace (IsFreeCluster known who attrs cluster_roles) low high cluster_bindings
        → AreFirstFrom known who attrs low high bindings last (Some (record { roles = roles; cluster_roles = cluster_roles; bindings = bindings; cluster_bindings = cluster_bindings }))
    AreFirstFrom-found cluster_bindings from upto least =
        let role_from : bindings ≤ role_last = by_roles.below.from in
        let cluster_from : bindings ≤ cluster_last = by_cluster.below.from in
        record {
          within = record {
            roles_from = by_roles.here.0;
            roles_upto = by_roles.here.1.0;
            cluster_roles_from = by_cluster.here.0;
            cluster_roles_upto = by_cluster.here.1.0;
            bindings_from = from;
            bindings_upto = upto;
            cluster_bindings_from = least.from_low;
            cluster_bindings_upto = least.upto_high;
          };
          here = (omega arith, (omega arith, ((by_roles.here.1.1, (λ must. by_cluster.here.1.1 (inl must))), least.here)));
          least = λ other within holds.
              let b : bindings ≤ other.bindings = holds.0 in
              let r : roles ≤ other.roles = roles_upto other within holds.0 holds.1.0 holds.1.1 in
              let c : cluster_roles ≤ other.cluster_roles = cluster_upto other within holds.0 holds.1.0 holds.1.1 in
              compare roles other.roles r _ (compare_same cluster_roles other.cluster_roles c _ (λ (same : other.cluster_roles ≡ cluster_roles).
              let cb : cluster_bindings ≤ other.cluster_bindings = least.least other.cluster_bindings within.cluster_bindings_from (subst (λ n. IsFreeCluster known who attrs n other.cluster_bindings) same holds.1.1.1) in
              compare bindings other.bindings b _ cb));
        }
      where
        compare : (a b : ℕ) → a ≤ b → (R : Type 0) → R → ComesFirst a b R
        compare a b upto R rest = ⊎_elim (λ (less : a < b). inl less) (λ (same : b ≤ a). inr (omega arith, rest)) (cases_lt a b)

        compare_same : (a b : ℕ) → a ≤ b → (R : Type 0) → (b ≡ a → R) → ComesFirst a b R
        compare_same a b upto R rest = ⊎_elim (λ (less : a < b). inl less) (λ (same : b ≤ a). inr (omega arith, rest (omega arith))) (cases_lt a b)

-- the least free places with the role bindings before a place
module _ (known : Known) (who : User) (attrs : RequestAttrs) (low high : ℕ) where
  pub record AreBefore (bindings : ℕ) (best : Option Places) : Type 0 where
    pub from : low ≤ bindings
    pub upto : bindings ≤ high
    pub first : AreFirstOf (λ p. (p.bindings < bindings) × IsFreeAt known who attrs p) low high best

  pub AreBefore-none : low ≤ high → AreBefore low None
  AreBefore-none range = record { from = omega arith; upto = range; first = λ p within holds. let from : low ≤ p.bindings = within.bindings_from in let less : p.bindings < low = holds.0 in omega arith }

  abbrev Upto : ℕ → Places → Type 0
  Upto last p = (p.bindings ≤ last) × IsFreeAt known who attrs p

  joined : (bindings last : ℕ) (best found : Option Places) → bindings ≤ last → AreBefore bindings best → AreFirstFrom known who attrs low high bindings last found → AreFirstOf (Upto last) low high (lesser_places best found)
  joined bindings last best found within so_far here =
      AreFirstOf-map (λ p. ((p.bindings < bindings) × IsFreeAt known who attrs p) ⊎ ((bindings ≤ p.bindings) × Upto last p)) (Upto last) low high (lesser_places best found)
      (λ p either. ⊎_elim (λ before. (let less : p.bindings < bindings = before.0 in omega arith, before.1)) (λ behind. behind.1) either)
      (λ p p_within upto. ⊎_elim (λ (less : p.bindings < bindings). inl (less, upto.1)) (λ (more : bindings ≤ p.bindings). inr (more, upto)) (cases_lt p.bindings bindings))
      (AreFirstOf-lesser_places (λ p. (p.bindings < bindings) × IsFreeAt known who attrs p) (λ p. (bindings ≤ p.bindings) × Upto last p) low high best found so_far.first here)

  pub AreBefore-more : (bindings last : ℕ) (best found : Option Places) → bindings ≤ last → last < high → AreBefore bindings best → AreFirstFrom known who attrs low high bindings last found
      → AreBefore (last + 1) (lesser_places best found)
  AreBefore-more bindings last best found within before so_far here =
      let from : low ≤ bindings = so_far.from in
      record {
        from = omega arith;
        upto = omega arith;
        first = AreFirstOf-map (Upto last) (λ p. (p.bindings < last + 1) × IsFreeAt known who attrs p) low high (lesser_places best found)
            (λ p upto. (let below : p.bindings ≤ last = upto.0 in omega arith, upto.1))
            (λ p p_within less. (let below : p.bindings < last + 1 = less.0 in omega arith, less.1))
            (joined bindings last best found within so_far here);
      }

  pub all_before : (bindings last : ℕ) (best found : Option Places) → bindings ≤ last → high ≤ last → AreBefore bindings best → AreFirstFrom known who attrs low high bindings last found
      → AreFirstOf (IsFreeAt known who attrs) low high (lesser_places best found)
  all_before bindings last best found within past so_far here =
      AreFirstOf-map (Upto last) (IsFreeAt known who attrs) low high (lesser_places best found) (λ p upto. upto.1)
      (λ p p_within free. (let upto : p.bindings ≤ high = p_within.bindings_upto in omega arith, free))
      (joined bindings last best found within so_far here)

  -- both caches of roles at the first place: those behind are not before
  abbrev pub HasFirstRoles : Option Places → Type 0
  HasFirstRoles best = MatchOption best ⊥ (λ places. (places.roles ≤ low) × (places.cluster_roles ≤ low))

  first_enough : (last : ℕ) (best : Option Places) → HasFirstRoles best → AreFirstOf (Upto last) low high best → AreFirstOf (IsFreeAt known who attrs) low high best
  first_enough last None first none = absurd first
  first_enough last (Some best) first found =
      let at_roles : best.roles ≤ low = first.0 in
      let at_cluster : best.cluster_roles ≤ low = first.1 in
      let best_last : best.bindings ≤ last = found.here.0 in
      record {
        within = found.within;
        here = found.here.1;
        least = λ other within free. ⊎_elim
            (λ (behind : last < other.bindings).
            let r : low ≤ other.roles = within.roles_from in
            let c : low ≤ other.cluster_roles = within.cluster_roles_from in
            ⊎_elim
            (λ (less : best.roles < other.roles). inl less)
            (λ (more : other.roles ≤ best.roles). inr (
              omega arith,
              ⊎_elim
                  (λ (less : best.cluster_roles < other.cluster_roles). inl less)
                  (λ (same : other.cluster_roles ≤ best.cluster_roles). inr (omega arith, inl (omega arith)))
                  (cases_lt best.cluster_roles other.cluster_roles),
            ))
            (cases_lt best.roles other.roles))
            (λ (upto : other.bindings ≤ last). found.least other within (upto, free))
            (cases_lt last other.bindings);
      }

  pub enough_before : (bindings last : ℕ) (best found : Option Places) → bindings ≤ last → HasFirstRoles (lesser_places best found) → AreBefore bindings best
      → AreFirstFrom known who attrs low high bindings last found → AreFirstOf (IsFreeAt known who attrs) low high (lesser_places best found)
  enough_before bindings last best found within first so_far here = first_enough last (lesser_places best found) first (joined bindings last best found within so_far here)
