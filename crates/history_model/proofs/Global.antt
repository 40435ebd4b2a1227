-- A log is explained exactly where one choice makes each event right.
use Rattle.std.proofs.Common.{◌≡◌, ℕ, ◌-◌, ◌⊎◌, ◌↔◌, List, take, slice_get, Option, Some, None, Contains, inl, inr, refl, ap, ◌∙◌, subst}
use Rattle.base_types.specs.Choices.{IsChoice}
use Rattle.base_types.specs.declared.verdict.placed.Places.{Places}
use Rattle.base_types.specs.declared.kubernetes.request.Decision.{Decision}
use Rattle.history_model.proofs.Chosen.{chosen_for}
use Rattle.history_model.proofs.CutLemmas.{cut_of, removal_cut}
use Rattle.history_model.proofs.Fits.{same_event}
use Rattle.history_model.proofs.Locality.{run_is_local, local_is_run}
use Rattle.history_model.proofs.MakingsLaw.{makings_are, entry_exists}
use Rattle.history_model.proofs.RemovalsLaw.{removals_are}
use Rattle.history_model.proofs.StepsOf.{steps_of}
use Rattle.history_model.proofs.WordLemmas.{IsMadeBy, word_makes, word_removes, is_at}
use Rattle.history_model.specs.Decisions.{IsDecidedAt}
use Rattle.history_model.specs.Events.{Event}
use Rattle.history_model.specs.Groups.{Making}
use Rattle.history_model.specs.Histories.{History, Version, IsEvent, ranges}
use Rattle.history_model.specs.Judging.{IsJudged}
use Rattle.history_model.specs.Local.{IsLocallyRight, IsFixedBy, IsFixedRight, AnswerHolds, AreRightUpTo}
use Rattle.history_model.specs.Machine.{Step}
use Rattle.history_model.specs.Making.{HasNoFault, IsEntryBefore}
use Rattle.history_model.specs.Readable.{IsReadable}
use Rattle.history_model.specs.Right.{IsRight}
use Rattle.history_model.specs.Runs.{Placement, AreSteps, IsPlacedUpTo, IsRunUpTo, IsExplainedUpTo}
use Rattle.history_model.specs.States.{cuts, state}
use Rattle.history_model.specs.Windows.{InWindow}
use Rattle.history_model.specs.Words.{Word, Makes, Removes, At, Strays, Nothing, word}

-- what a run says of one event
pub run_is_right : (h : History) (n : ℕ) (p : Placement) → IsReadable h → IsRunUpTo h n p → AreRightUpTo h n p.choice
run_is_right h n p r run = λ number event j known. record { fixed = fixed number event j known; answer = answer number event j known }
  where
    local : IsLocallyRight h n p
    local = run_is_local h n p run.steps r run.placed run.are run.runs

    answer : (number : ℕ) (event : Event) → IsJudged h n number → IsEvent h number event → AnswerHolds h p.choice number event
    answer number event j known w = (p.at_place number, run.placed.windows number event j known w, local.answers number event j known w)

    by_word : (number : ℕ) (event : Event) → IsJudged h n number → IsEvent h number event → (w : Word) → word h number event ≡ w → IsFixedBy h event w
    by_word number event j known (Makes m) w = λ before e. (makings_are h p.choice number event m before None r run.placed.chosen known w e).0 (local.makings number event m j known w)
    by_word number event j known (Removes removal) w = go (removal_cut h.removals p.choice removal run.placed.chosen (word_removes h number event removal w).0)
      where
        go : (place : ℕ) × Contains (cuts h.removals p.choice) (cut_of removal place) → IsFixedBy h event (Removes removal)
        go (place, c) = (removals_are h p.choice event (cut_of removal place) r run.placed.chosen c).0 (local.removals number event (cut_of removal place) j known w c)
    by_word number event j known At w = tt
    by_word number event j known Strays w = absurd ((run.placed.sound number event j known).no_stray w)
    by_word number event j known Nothing w = tt

    fixed : (number : ℕ) (event : Event) → IsJudged h n number → IsEvent h number event → IsFixedRight h number event
    fixed number event j known = record {
      level = (run.placed.sound number event j known).level;
      stage = (run.placed.sound number event j known).stage;
      by_word = by_word number event j known (word h number event) refl;
      decision = λ d e. (p.decided number, run.placed.decisions number event d j known e);
    }

-- an event that is right at what a placement gives it
pub record IsRightAs (h : History) (p : Placement) (number : ℕ) (event : Event) : Type 0 where
  pub fixed : IsFixedRight h number event
  pub answer : word h number event ≡ At → InWindow h event (p.at_place number) × IsRight h number event (p.at_place number) (state h p.choice (p.at_place number))
  pub decision : (d : Decision) → event.decision ≡ Some d → IsDecidedAt h number event (p.decided number)

-- a placement at which each event is right is a run
pub right_is_run : (h : History) (n : ℕ) (p : Placement) → IsReadable h → IsChoice (ranges h) p.choice
    → ((number : ℕ) (event : Event) → IsJudged h n number → IsEvent h number event → IsRightAs h p number event) → IsRunUpTo h n p
right_is_run h n p r chosen right = go (steps_of h n p r)
  where
    fixed_by : (number : ℕ) (event : Event) (w : Word) → IsJudged h n number → IsEvent h number event → word h number event ≡ w → IsFixedBy h event w
    fixed_by number event w j known e = subst (λ z. IsFixedBy h event z) e (right number event j known).fixed.by_word

    placed : IsPlacedUpTo h n p
    placed = record {
      chosen = chosen;
      sound = λ number event j known. record {
        level = (right number event j known).fixed.level;
        stage = (right number event j known).fixed.stage;
        no_stray = λ e. fixed_by number event Strays j known e;
      };
      windows = λ number event j known w. ((right number event j known).answer w).0;
      decisions = λ number event d j known e. (right number event j known).decision d e;
    }

    local : IsLocallyRight h n p
    local = record {
      makings = λ number event m j known w. making number event m j known w (word_makes h number event m r known w);
      removals = λ number event cut j known w c. (removals_are h p.choice event cut r chosen c).1 (fixed_by number event (Removes cut.removal) j known w);
      answers = λ number event j known w. ((right number event j known).answer w).1;
    }
      where
        making : (number : ℕ) (event : Event) (m : Making) → IsJudged h n number → IsEvent h number event → word h number event ≡ Makes m
            → (v : Version) × IsMadeBy h m v × (m.number ≡ number) × (m.event ≡ event) → HasNoFault h m (state h p.choice (m.item.revision - 1) m.item.key)
        making number event m j known w (v, b, q, x) = at (entry_exists h p.choice m v r chosen b)
          where
            at : (before : Option Version) × IsEntryBefore h m before → HasNoFault h m (state h p.choice (m.item.revision - 1) m.item.key)
            at (before, e) = (makings_are h p.choice number event m before None r chosen known w e).1 (fixed_by number event (Makes m) j known w before e)

    go : (steps : List Step) × AreSteps h n p steps → IsRunUpTo h n p
    go (steps, are) = record { placed = placed; steps = steps; are = are; runs = local_is_run h n p steps r placed are local }

no_places : Places
no_places = record { roles = 0; cluster_roles = 0; bindings = 0; cluster_bindings = 0 }

-- where a choice makes each event right, their places make a run with it
pub right_has_run : (h : History) (n : ℕ) (choice : List ℕ) → IsReadable h → IsChoice (ranges h) choice → AreRightUpTo h n choice
    → (p : Placement) × IsRunUpTo h n p × (p.choice ≡ choice)
right_has_run h n choice r chosen right = go (chosen_for 0 Place (take n h.order) place) (chosen_for no_places Caches (take n h.order) caches)
  where
    Place : ℕ → ℕ → Type 0
    Place number place = (event : Event) → IsEvent h number event → word h number event ≡ At → InWindow h event place × IsRight h number event place (state h choice place)

    Caches : ℕ → Places → Type 0
    Caches number places = (event : Event) (d : Decision) → IsEvent h number event → event.decision ≡ Some d → IsDecidedAt h number event places

    place : (number : ℕ) → IsJudged h n number → (place : ℕ) × ((event : Event) → IsEvent h number event → word h number event ≡ At → InWindow h event place × IsRight h number event place (state h choice place))
    place number j = at (slice_get h.events number) refl
      where
        at : (o : Option Event) → slice_get h.events number ≡ o
            → (place : ℕ) × ((event : Event) → IsEvent h number event → word h number event ≡ At → InWindow h event place × IsRight h number event place (state h choice place))
        at None e = (0, λ event known w. absurd (cc (known, e)))
        at (Some event) e = by (is_at (word h number event))
          where
            by : (word h number event ≡ At) ⊎ (word h number event ≡ At → ⊥)
                → (place : ℕ) × ((event : Event) → IsEvent h number event → word h number event ≡ At → InWindow h event place × IsRight h number event place (state h choice place))
            by (inl w) = let a : (place : ℕ) × InWindow h event place × IsRight h number event place (state h choice place) = (right number event j e).answer w in
                (a.0, λ other known q. subst (λ z. InWindow h z a.0 × IsRight h number z a.0 (state h choice a.0)) (same_event h number event other e known) (a.1, a.2))
            by (inr w) = (0, λ other known q. absurd (w (ap (word h number) (same_event h number event other e known) ∙ q)))

    caches : (number : ℕ) → IsJudged h n number → (places : Places) × ((event : Event) (d : Decision) → IsEvent h number event → event.decision ≡ Some d → IsDecidedAt h number event places)
    caches number j = at (slice_get h.events number) refl
      where
        at : (o : Option Event) → slice_get h.events number ≡ o
            → (places : Places) × ((event : Event) (d : Decision) → IsEvent h number event → event.decision ≡ Some d → IsDecidedAt h number event places)
        at None e = (no_places, λ event d known q. absurd (cc (known, e)))
        at (Some event) e = by event.decision refl
          where
            by : (o : Option Decision) → event.decision ≡ o
                → (places : Places) × ((event : Event) (d : Decision) → IsEvent h number event → event.decision ≡ Some d → IsDecidedAt h number event places)
            by None f = (no_places, λ other d known q. absurd (none-is other d known q))
              where
                none-is : (other : Event) (d : Decision) → IsEvent h number other → other.decision ≡ Some d → ⊥
                none-is other d known q = let g : event.decision ≡ Some d = ap (λ (z : Event). z.decision) (same_event h number event other e known) ∙ q in cc (f, g)
            by (Some d) f = let a : (places : Places) × IsDecidedAt h number event places = (right number event j e).fixed.decision d f in
                (a.0, λ other x known q. subst (λ z. IsDecidedAt h number z a.0) (same_event h number event other e known) a.1)

    go : (at : ℕ → ℕ) × ((number : ℕ) → IsJudged h n number → (event : Event) → IsEvent h number event → word h number event ≡ At → InWindow h event (at number) × IsRight h number event (at number) (state h choice (at number)))
        → (caches : ℕ → Places) × ((number : ℕ) → IsJudged h n number → (event : Event) (d : Decision) → IsEvent h number event → event.decision ≡ Some d → IsDecidedAt h number event (caches number))
        → (p : Placement) × IsRunUpTo h n p × (p.choice ≡ choice)
    go (at, ats) (caches', cs) = (
      record { choice = choice; at_place = at; decided = caches' },
      right_is_run h n (record { choice = choice; at_place = at; decided = caches' }) r chosen
          (λ number event j known. record { fixed = (right number event j known).fixed; answer = ats number j event known; decision = λ d e. cs number j event d known e }),
      refl,
    )

pub global_is : (h : History) (n : ℕ) → IsReadable h → IsExplainedUpTo h n ↔ ((choice : List ℕ) × IsChoice (ranges h) choice × AreRightUpTo h n choice)
global_is h n r = (λ e. (e.0.choice, e.1.placed.chosen, run_is_right h n e.0 r e.1), λ (choice, chosen, right). at choice (right_has_run h n choice r chosen right))
  where
    at : (choice : List ℕ) → (p : Placement) × IsRunUpTo h n p × (p.choice ≡ choice) → IsExplainedUpTo h n
    at choice (p, run, e) = (p, run)
