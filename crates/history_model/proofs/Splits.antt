-- A run is allowed at each cut of its steps.
use Rattle.std.proofs.Common.{◌≡◌, ◌⊎◌, List, [], ◌∷◌, ◌++◌, Contains, inl, inr, refl, ap, subst}
use Rattle.std.proofs.lemmas.List.Elements.{Contains-append_left, Contains-append_right, Contains-append_cases}
use Rattle.history_model.proofs.Members.{not_in_none, here, in_cons, all_at, all_from}
use Rattle.history_model.specs.Histories.{History}
use Rattle.history_model.specs.Machine.{Step, after, after_all, Precedes, InOrder, IsAllowed, Runs}
use Rattle.history_model.specs.States.{Map}

-- the steps before one, it, and those behind it
pub record SplitsAt {X : Type 0} (xs done : List X) (x : X) (rest : List X) : Type 0 where
  pub whole : xs ≡ done ++ x ∷ rest

pub split_at : {X : Type 0} (xs : List X) (x : X) → Contains xs x → (done : List X) × (rest : List X) × SplitsAt xs done x rest
split_at [] x c = absurd (not_in_none c)
split_at {X} (y ∷ ys) x c = go (split_at ys x) (in_cons y ys x c)
  where
    go : (Contains ys x → (done : List X) × (rest : List X) × SplitsAt ys done x rest) → (y ≡ x) ⊎ Contains ys x
        → (done : List X) × (rest : List X) × SplitsAt (y ∷ ys) done x rest
    go more (inl e) = ([], ys, record { whole = ap (λ z. z ∷ ys) e })
    go more (inr m) = at (more m)
      where
        at : (done : List X) × (rest : List X) × SplitsAt ys done x rest → (done : List X) × (rest : List X) × SplitsAt (y ∷ ys) done x rest
        at (done, rest, s) = (y ∷ done, rest, record { whole = ap (λ zs. y ∷ zs) s.whole })

pub runs_each : (h : History) (Judged : Step → Type 0) (map : Map) (done : List Step) (s : Step) (rest : List Step) → Runs h Judged map (done ++ s ∷ rest)
    → Judged s → IsAllowed h (after_all map done) s
runs_each h Judged map [] s rest r j = r.0 j
runs_each h Judged map (t ∷ done) s rest r j = runs_each h Judged (after map t) done s rest r.1 j

pub each_runs : (h : History) (Judged : Step → Type 0) (map : Map) (steps : List Step)
    → ((done : List Step) (s : Step) (rest : List Step) → steps ≡ done ++ s ∷ rest → Judged s → IsAllowed h (after_all map done) s) → Runs h Judged map steps
each_runs h Judged map [] each = tt
each_runs h Judged map (s ∷ ss) each =
    (each [] s ss refl, each_runs h Judged (after map s) ss (λ done t rest e. each (s ∷ done) t rest (ap (λ zs. s ∷ zs) e)))

pub order_front : (h : History) (done : List Step) (s : Step) (rest : List Step) → InOrder h (done ++ s ∷ rest) → InOrder h done
order_front h [] s rest o = tt
order_front h (t ∷ done) s rest o =
    (all_from (Precedes h t) done (λ u c. all_at (Precedes h t) (done ++ s ∷ rest) u o.0 (Contains-append_left done (s ∷ rest) u c)), order_front h done s rest o.1)

pub before_split : (h : History) (done : List Step) (s : Step) (rest : List Step) (u : Step) → InOrder h (done ++ s ∷ rest) → Contains done u → Precedes h u s
before_split h [] s rest u o c = absurd (not_in_none c)
before_split h (t ∷ done) s rest u o c = go (before_split h done s rest u o.1) (in_cons t done u c)
  where
    go : (Contains done u → Precedes h u s) → (t ≡ u) ⊎ Contains done u → Precedes h u s
    go more (inl e) = subst (λ z. Precedes h z s) e (all_at (Precedes h t) (done ++ s ∷ rest) s o.0 (Contains-append_right done (s ∷ rest) s (here s rest)))
    go more (inr m) = more m

pub behind_split : (h : History) (done : List Step) (s : Step) (rest : List Step) (u : Step) → InOrder h (done ++ s ∷ rest) → Contains rest u → Precedes h s u
behind_split h [] s rest u o c = all_at (Precedes h s) rest u o.0 c
behind_split h (t ∷ done) s rest u o c = behind_split h done s rest u o.1 c

-- where a step of the list stands
pub of_split : (done : List Step) (s : Step) (rest : List Step) (u : Step) → Contains (done ++ s ∷ rest) u → Contains done u ⊎ (s ≡ u) ⊎ Contains rest u
of_split done s rest u c = go (Contains-append_cases done (s ∷ rest) u c)
  where
    go : Contains done u ⊎ Contains (s ∷ rest) u → Contains done u ⊎ (s ≡ u) ⊎ Contains rest u
    go (inl m) = inl m
    go (inr m) = inr (in_cons s rest u m)
