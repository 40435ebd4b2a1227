-- The things of a log, one event after another.
use Rattle.std.proofs.Common.{◌≡◌, ℕ, zero, suc, ℤ, ◌+◌, ◌<◌, ◌≤◌, ◌≤ℤ◌, ⊎_elim, List, [], ◌∷◌, ◌++◌, length, All, AllPairs, Contains, Some, slice_get, sym, ap, ◌∙◌, subst, arith}
use Rattle.std.proofs.lemmas.Bool.{cases_lt}
use Rattle.std.proofs.lemmas.List.Elements.{Contains-append_left, Contains-append_right, Contains-push_cases}
use Rattle.std.proofs.lemmas.Option.{same_Some, slice_get_within}
use Rattle.base_types.specs.declared.kubernetes.key.ObjectKey.{ObjectKey}
use Rattle.history_model.proofs.Members.{all_at, all_from, at_in, here, pairs_head, pairs_tail}
use Rattle.history_model.specs.Events.{Answer, Event, Item, Made, Removed, Opaque, Saw, SawNone, SawSome, SawOther, Listed, Free, Aside}
use Rattle.history_model.specs.Histories.{History, IsEvent}
use Rattle.history_model.specs.Readable.{IsReadable}
use Rattle.history_model.specs.Words.{Word, Makes, Removes, At, Strays, Nothing, word}
use Rattle.past_building.proofs.Mapped.{pairs_push}
use Rattle.log_moments.specs.Things.{AreThings, HasNumbers, HasNumbersAt, IsLastNumber, IsThingOf, ShowsVersion, before_next, greatest_for, without_end}
use Rattle.log_moments.specs.declared.numbers.NumberRange.{NumberRange}
use Rattle.strict_order.specs.declared.thing.Thing.{Thing}

-- a version has one last number
last_once : (h : History) (key : ObjectKey) (revision a b : ℕ) → IsLastNumber h key revision a → IsLastNumber h key revision b → a ≡ b
last_once h key revision a b (before_next v x p) (before_next w y q) =
    let up = x.first w y.known y.of_key y.behind in
    let down = y.first v x.known x.of_key x.behind in
    omega (arith, p, q, up, down)
last_once h key revision a b (before_next v x p) (without_end none q) = absurd (let upto = none v x.known x.of_key in let behind = x.behind in omega (arith, upto, behind))
last_once h key revision a b (without_end none p) (before_next w y q) = absurd (let upto = none w y.known y.of_key in let behind = y.behind in omega (arith, upto, behind))
last_once h key revision a b (without_end none p) (without_end other q) = p ∙ sym q

same_numbers : (a b : NumberRange) → a.least ≡ b.least → a.greatest ≡ b.greatest → a ≡ b
same_numbers a b least greatest = λ i. record { least = least i; greatest = greatest i }

shown_once : (h : History) (event : Event) (item : Item) (a b : NumberRange) → ShowsVersion h event item a → ShowsVersion h event item b → a ≡ b
shown_once h event item a b x y = same_numbers a b (x.least ∙ sym y.least)
    (x.greatest ∙ ap (greatest_for event.reading) (last_once h item.key item.revision x.last y.last x.is_last y.is_last) ∙ sym y.greatest)

answered_once : (h : History) (event : Event) (answer : Answer) (a b : NumberRange) → HasNumbersAt h event answer a → HasNumbersAt h event answer b → a ≡ b
answered_once h event (Made item created) a b x y = shown_once h event item a b x y
answered_once h event (Removed key uid) a b x y = absurd x
answered_once h event (Opaque cover) a b x y = absurd x
answered_once h event (Saw item) a b x y = shown_once h event item a b x y
answered_once h event (SawNone key) a b x y = absurd x
answered_once h event (SawSome key) a b x y = absurd x
answered_once h event (SawOther key) a b x y = absurd x
answered_once h event (Listed listing) a b x y = same_numbers a b (x.least ∙ sym y.least) (x.greatest ∙ sym y.greatest)
answered_once h event Free a b x y = absurd x
answered_once h event Aside a b x y = absurd x

-- an event has its numbers alone
pub numbers_once : (h : History) (event : Event) (answer : Answer) (w : Word) (a b : NumberRange) → HasNumbers h event answer w a → HasNumbers h event answer w b → a ≡ b
numbers_once h event answer (Makes m) a b x y = same_numbers a b (x.0 ∙ sym y.0) (x.1 ∙ sym y.1)
numbers_once h event answer (Removes removal) a b x y = absurd x
numbers_once h event answer At a b x y = answered_once h event answer a b x y
numbers_once h event answer Strays a b x y = absurd x
numbers_once h event answer Nothing a b x y = absurd x

same_thing : (a b : Thing) → a.line ≡ b.line → a.lo.0 ≡ b.lo.0 → a.hi.0 ≡ b.hi.0 → a.least ≡ b.least → a.greatest ≡ b.greatest → a ≡ b
same_thing a b line lo hi least greatest = λ i. record { line = line i; lo = record { 0 = lo i }; hi = record { 0 = hi i }; least = least i; greatest = greatest i }

-- an event is one thing
pub thing_once : (h : History) (number : ℕ) (event : Event) (a b : Thing) → IsThingOf h number event a → IsThingOf h number event b → a ≡ b
thing_once h number event a b x y =
    let same = numbers_once h event event.answer (word h number event) (record { least = a.least; greatest = a.greatest }) (record { least = b.least; greatest = b.greatest }) x.numbered y.numbered in
    same_thing a b (x.line ∙ sym y.line) (x.lo ∙ sym y.lo) (x.hi ∙ sym y.hi) (ap (λ (n : NumberRange). n.least) same) (ap (λ (n : NumberRange). n.greatest) same)

-- the thing is that of one of the first n events
pub record IsThingBefore (h : History) (n : ℕ) (thing : Thing) : Type 0 where
  pub number : ℕ
  pub event : Event
  pub before : number < n
  pub known : IsEvent h number event
  pub is : IsThingOf h number event thing

-- the things of the first n events
pub record AreThingsBefore (h : History) (n : ℕ) (things : List Thing) : Type 0 where
  pub rising : AllPairs (λ a b. a.line < b.line) things
  pub sound : All (IsThingBefore h n) things
  pub full : (number : ℕ) (event : Event) (thing : Thing) → number < n → IsEvent h number event → IsThingOf h number event thing → Contains things thing

-- events and their lines rise together
lines_rise : (events : List Event) (i j : ℕ) (x y : Event) → AllPairs (λ a b. a.line < b.line) events → slice_get events i ≡ Some x → slice_get events j ≡ Some y → i < j → x.line < y.line
lines_rise [] i j x y rising at_x at_y before = absurd (cc at_x)
lines_rise (e ∷ events) i zero x y rising at_x at_y before = absurd (omega (arith, before))
lines_rise (e ∷ events) zero (suc j) x y rising at_x at_y before =
    subst (λ (z : Event). z.line < y.line) (same_Some e x at_x) (all_at (λ (z : Event). e.line < z.line) events y (pairs_head (λ a b. a.line < b.line) e events rising) (at_in events j y at_y))
lines_rise (e ∷ events) (suc i) (suc j) x y rising at_x at_y before = lines_rise events i j x y (pairs_tail (λ a b. a.line < b.line) e events rising) at_x at_y (omega (arith, before))

pub no_things : (h : History) → AreThingsBefore h 0 []
no_things h = record {
  rising = λ i j d before within. absurd (omega (arith, within));
  sound = λ k d within. absurd (omega (arith, within));
  full = λ number event thing before known is. absurd (omega (arith, before));
}

module _ (h : History) (n : ℕ) (event : Event) (readable : IsReadable h) (known : IsEvent h n event) (things : List Thing) (done : AreThingsBefore h n things) where
  longer : (thing : Thing) → IsThingBefore h n thing → IsThingBefore h (n + 1) thing
  longer thing is = record { number = is.number; event = is.event; before = (let less = is.before in omega (arith, less)); known = is.known; is = is.is }

  -- the event is none
  pub things_same : ((thing : Thing) → IsThingOf h n event thing → ⊥) → AreThingsBefore h (n + 1) things
  things_same none = record {
    rising = done.rising;
    sound = all_from (IsThingBefore h (n + 1)) things (λ t among. longer t (all_at (IsThingBefore h n) things t done.sound among));
    full = λ number other thing before at is. ⊎_elim
        (λ less. done.full number other thing less at is)
        (λ from. absurd (none thing (here' number other thing (omega (arith, before, from)) at is)))
        (cases_lt number n);
  }
    where
      here' : (number : ℕ) (other : Event) (thing : Thing) → number ≡ n → IsEvent h number other → IsThingOf h number other thing → IsThingOf h n event thing
      here' number other thing same at is =
          let one : other ≡ event = same_Some other event (sym at ∙ ap (slice_get h.events) same ∙ known) in
          subst (λ k. IsThingOf h k event thing) same (subst (λ e. IsThingOf h number e thing) one is)

  -- the event is this one
  pub things_more : (new : Thing) → IsThingOf h n event new → AreThingsBefore h (n + 1) (things ++ new ∷ [])
  things_more new is_new = record {
    rising = pairs_push (λ a b. a.line < b.line) things new done.rising (all_from (λ (t : Thing). t.line < new.line) things (λ t among.
        let b = all_at (IsThingBefore h n) things t done.sound among in
        let less = lines_rise h.events b.number n b.event event readable.lines b.known known b.before in
        let at = b.is.line in let last = is_new.line in
        omega (arith, less, at, last)));
    sound = all_from (IsThingBefore h (n + 1)) (things ++ new ∷ []) (λ t among. ⊎_elim
        (λ before. longer t (all_at (IsThingBefore h n) things t done.sound before))
        (λ same. subst (IsThingBefore h (n + 1)) same (record { number = n; event = event; before = omega arith; known = known; is = is_new }))
        (Contains-push_cases things new t among));
    full = λ number other thing before at is. ⊎_elim
        (λ less. Contains-append_left things (new ∷ []) thing (done.full number other thing less at is))
        (λ from. Contains-append_right things (new ∷ []) thing (subst (Contains (new ∷ [])) (thing_once h n event new thing is_new (here' number other thing (omega (arith, before, from)) at is)) (here new [])))
        (cases_lt number n);
  }
    where
      here' : (number : ℕ) (other : Event) (thing : Thing) → number ≡ n → IsEvent h number other → IsThingOf h number other thing → IsThingOf h n event thing
      here' number other thing same at is =
          let one : other ≡ event = same_Some other event (sym at ∙ ap (slice_get h.events) same ∙ known) in
          subst (λ k. IsThingOf h k event thing) same (subst (λ e. IsThingOf h number e thing) one is)

-- all of them
pub all_things : (h : History) (n : ℕ) (things : List Thing) → length h.events ≤ n → AreThingsBefore h n things → AreThings h things
all_things h n things whole done = record {
  rising = done.rising;
  exact = λ thing. (
    (λ among. let b = all_at (IsThingBefore h n) things thing done.sound among in (b.number, b.event, b.known, b.is)),
    (λ is. done.full is.0 is.1 thing (let within = slice_get_within h.events is.0 is.1 is.2 in omega (arith, within, whole)) is.2 is.3),
  );
}

-- an event's thing, by its numbers
pub thing_is : (h : History) (number : ℕ) (event : Event) (numbers : NumberRange) (thing : Thing) → thing.least ≡ numbers.least → thing.greatest ≡ numbers.greatest
    → HasNumbers h event event.answer (word h number event) numbers → HasNumbers h event event.answer (word h number event) (record { least = thing.least; greatest = thing.greatest })
thing_is h number event numbers thing least greatest has =
    subst (HasNumbers h event event.answer (word h number event)) (same_numbers numbers (record { least = thing.least; greatest = thing.greatest }) (sym least) (sym greatest)) has

-- where no event ends before it begins, no thing does
pub things_in_time : (h : History) (things : List Thing) → AreThings h things → ((number : ℕ) (event : Event) → IsEvent h number event → event.lo ≤ℤ event.hi)
    → All (λ t. t.lo.0 ≤ℤ t.hi.0) things
things_in_time h things are timed = all_from (λ (t : Thing). t.lo.0 ≤ℤ t.hi.0) things (λ t among.
    let is = (are.exact t).0 among in
    subst (λ (z : ℤ). z ≤ℤ t.hi.0) (sym is.3.lo) (subst (λ (z : ℤ). is.1.lo ≤ℤ z) (sym is.3.hi) (timed is.0 is.1 is.2)))
