-- What is asked, under one choice, and as bounds.
use Rattle.std.proofs.Common.{◌≡◌, ℕ, ◌+◌, ◌<◌, ◌≤◌, ◌⊎◌, ◌↔◌, List, [], ◌∷◌, length, take, get_or, Contains, inl, inr, refl, sym, subst, arith}
use Rattle.std.proofs.lemmas.List.{take_more, take_all}
use Rattle.std.proofs.lemmas.List.Elements.{All-push}
use Rattle.base_types.specs.Choices.{IsChoice, Meets, MeetsAll}
use Rattle.base_types.specs.declared.verdict.claim.Bound.{Bound}
use Rattle.base_types.specs.declared.kubernetes.key.ObjectKey.{ObjectKey}
use Rattle.history_model.proofs.Members.{not_in_none, here, in_cons, all_at, all_from}
use Rattle.history_model.proofs.OpenBounds.{have_places, open_is}
use Rattle.history_model.specs.Bounding.{SomewhereIn, IsOpen}
use Rattle.history_model.specs.Events as model
use Rattle.history_model.specs.Exact.{AreExactBounds}
use Rattle.history_model.specs.Histories.{History, ranges}
use Rattle.history_model.specs.Local.{AnswerHolds}
use Rattle.history_model.specs.Readable.{IsReadable}
use Rattle.history_model.specs.Right.{IsRight, IsRightAnswer, IsListRight}
use Rattle.history_model.specs.States.{state}
use Rattle.history_model.specs.Windows.{InWindow}
use Rattle.history_model.specs.Words.{At, word}
use Rattle.write_groups.specs.declared.window.Window.{Window}
use Rattle.local_bounds.specs.declared.asking.BoundDemand.{BoundDemand}
use Rattle.local_bounds.specs.declared.asking.BoundDemand.TheVariants as whole
use Rattle.local_bounds.specs.declared.asking.KeyDemand.{KeyDemand}
use Rattle.local_bounds.specs.declared.asking.KeyDemand.TheVariants.{Free, Under, Never}
use Rattle.local_bounds.proofs.Asks.{asking_same}
use Rattle.local_bounds.specs.Asked.{IsKeyAsking, IsAsking, IsAskingOf, IsDeciding, HoldsUnder, HoldsAll, asking_from, bounds_of}
use Rattle.local_bounds.specs.Known.{IsWindowOf}

pub holds_key : (h : History) (key : ObjectKey) (P : List ℕ → Type 0) (asking : KeyDemand) (choice : List ℕ) → IsChoice (ranges h) choice → IsKeyAsking h key P asking → HoldsUnder choice asking ↔ P choice
holds_key h key P Free choice chosen a = ((λ t. a choice chosen), λ p. tt)
holds_key h key P (Under bound) choice chosen a = ((a.2 choice chosen).1, (a.2 choice chosen).0)
holds_key h key P Never choice chosen a = ((λ t. absurd t), λ p. a choice chosen p)

pub holds_all : (h : History) (P : List ℕ → Type 0) (asking : BoundDemand) (choice : List ℕ) → IsChoice (ranges h) choice → IsAsking h P asking → HoldsAll choice asking ↔ P choice
holds_all h P whole.Free choice chosen a = ((λ t. a choice chosen), λ p. tt)
holds_all h P (whole.Under bounds) choice chosen a = ((a.1 choice chosen).1, (a.1 choice chosen).0)
holds_all h P whole.Never choice chosen a = ((λ t. absurd t), λ p. a choice chosen p)

-- one more bound that is met, and all
pub meets_more : (choice : List ℕ) (bounds : List Bound) (i : ℕ) (d : Bound) → i < length bounds → MeetsAll choice (take i bounds) → Meets choice (get_or bounds i d) → MeetsAll choice (take (i + 1) bounds)
meets_more choice bounds i d within met m = subst (MeetsAll choice) (sym (take_more bounds i d within)) (All-push (Meets choice) (take i bounds) (get_or bounds i d) met m)

pub meets_each : (choice : List ℕ) (bounds : List Bound) (i : ℕ) → length bounds ≤ i → MeetsAll choice (take i bounds) → MeetsAll choice bounds
meets_each choice bounds i over met = subst (MeetsAll choice) (take_all i bounds over) met

one_met : (choice : List ℕ) (bound : Bound) → Meets choice bound ↔ MeetsAll choice (bound ∷ [])
one_met choice bound = ((λ m. all_from (Meets choice) (bound ∷ []) (λ x c. go x m (in_cons bound [] x c))), λ m. all_at (Meets choice) (bound ∷ []) bound m (here bound []))
  where
    go : (x : Bound) → Meets choice bound → (bound ≡ x) ⊎ Contains [] x → Meets choice x
    go x m (inl e) = subst (Meets choice) e m
    go x m (inr c) = absurd (not_in_none c)

-- one bound is all
pub key_whole : (h : History) (key : ObjectKey) (P : List ℕ → Type 0) (asking : KeyDemand) → IsKeyAsking h key P asking → IsAsking h P (asking_from asking)
key_whole h key P Free a = a
key_whole h key P (Under bound) a = (
  record { rising = λ i j d l m. absurd (omega arith); deciding = λ x c. go x (in_cons bound [] x c) },
  λ choice chosen. ((λ p. (one_met choice bound).0 ((a.2 choice chosen).0 p)), λ m. (a.2 choice chosen).1 ((one_met choice bound).1 m)),
)
  where
    go : (x : Bound) → (bound ≡ x) ⊎ Contains [] x → IsDeciding h x
    go x (inl e) = subst (IsDeciding h) e a.0
    go x (inr c) = absurd (not_in_none c)
key_whole h key P Never a = a

-- bounds that are exact
pub exact_from : (h : History) (number : ℕ) (event : model.Event) (asking : BoundDemand) → IsReadable h → IsAskingOf h number event asking → AreExactBounds h number event (bounds_of asking)
exact_from h number event whole.Free r a = go (open_is (ranges h) [] (have_places h r) (λ i j d l m. absurd (omega arith)) (λ b c. absurd (not_in_none c)))
  where
    go : (choice : List ℕ) × IsChoice (ranges h) choice × MeetsAll choice [] → AreExactBounds h number event []
    go (choice, chosen, met) = inl ((choice, chosen, a choice chosen), λ other is. ((λ p. λ k d l. absurd (omega arith)), λ m. a other is))
exact_from h number event (whole.Under bounds) r a = go (open_is (ranges h) bounds (have_places h r) a.0.rising (λ b c. room b (a.0.deciding b c)))
  where
    room : (b : Bound) → IsDeciding h b → IsOpen (ranges h) b
    room b d = d.has_room

    go : (choice : List ℕ) × IsChoice (ranges h) choice × MeetsAll choice bounds → AreExactBounds h number event bounds
    go (choice, chosen, met) = inl ((choice, chosen, (a.1 choice chosen).1 met), a.1)
exact_from h number event whole.Never r a = inr (a, refl)

pub exact_as : (h : History) (number : ℕ) (event : model.Event) (asking : BoundDemand) (bounds : List Bound) → bounds ≡ bounds_of asking → IsReadable h
    → IsAskingOf h number event asking → AreExactBounds h number event bounds
exact_as h number event asking bounds e r a = subst (AreExactBounds h number event) (sym e) (exact_from h number event asking r a)

-- an answer holds where it is right somewhere in its window
module _ (h : History) (number : ℕ) (event : model.Event) (window : Window) (w : IsWindowOf h event window) (at : word h number event ≡ At) where
  pub answer_is : (choice : List ℕ) → SomewhereIn window.low window.high (λ x. IsRight h number event x (state h choice x)) ↔ AnswerHolds h choice number event
  answer_is choice = ((λ (x, l, m, r) t. (x, (omega (arith, l, w.from), omega (arith, m, w.to)), r)), λ a. back (a at))
    where
      back : (place : ℕ) × InWindow h event place × IsRight h number event place (state h choice place) → SomewhereIn window.low window.high (λ x. IsRight h number event x (state h choice x))
      back (x, i, r) = (x, omega (arith, i.0, w.from), omega (arith, i.1, w.to), r)

  -- by what it is right at each place
  pub asking_by : (Q : List ℕ → ℕ → Type 0) (asking : BoundDemand) → ((choice : List ℕ) (x : ℕ) → IsRight h number event x (state h choice x) ↔ Q choice x)
      → IsAsking h (λ choice. SomewhereIn window.low window.high (Q choice)) asking → IsAskingOf h number event asking
  asking_by Q asking same a = asking_same h (λ choice. SomewhereIn window.low window.high (Q choice)) (λ choice. AnswerHolds h choice number event) asking
      (λ choice chosen. ((λ (x, l, m, q). (answer_is choice).0 (x, l, m, (same choice x).1 q)), λ p. to choice ((answer_is choice).1 p))) a
    where
      to : (choice : List ℕ) → SomewhereIn window.low window.high (λ x. IsRight h number event x (state h choice x)) → SomewhereIn window.low window.high (Q choice)
      to choice (x, l, m, r) = (x, l, m, (same choice x).0 r)

  pub right_list : (listing : model.Listing) → event.answer ≡ model.Listed listing → (choice : List ℕ) (x : ℕ)
      → IsRight h number event x (state h choice x) ↔ IsListRight h number listing x (state h choice x)
  right_list listing e choice x = (
    subst (λ a. IsRightAnswer h number event x (state h choice x) a) e,
    subst (λ a. IsRightAnswer h number event x (state h choice x) a) (sym e),
  )
