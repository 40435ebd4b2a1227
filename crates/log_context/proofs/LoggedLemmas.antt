-- Events that were put into the model's terms, one after another.
use Rattle.std.proofs.Common.{◌≡◌, ℕ, zero, suc, ◌+◌, ◌<◌, List, [], ◌∷◌, ◌++◌, length, get_or, take, Some, slice_get, sym, subst, arith, length-append}
use Rattle.base_types.specs.Meaning.{Meaning}
use Rattle.node_pool.specs.Subtrees.{Begins}
use Rattle.audit_event.specs.declared.event.Event.{Event}
use Rattle.setup_file.specs.declared.setup.Checkpoint.{Checkpoint}
use Rattle.setup_file.specs.declared.setup.Setup.{Setup}
use Rattle.answer_class.specs.Classes.{class_of}
use Rattle.write_groups.specs.declared.event.LogEvent.{LogEvent}
use Rattle.log_context.specs.Logged.{IsLogged, IsLoggedCheckpoint, AreLoggedEvents, AreLoggedCheckpoints}
use Rattle.log_context.proofs.PoolLemmas.{more_taken, length_taken}
use Rattle.log_context.proofs.ShownLemmas.{shown_stays, checkpoint_stays}

-- what holds place by place of two lists, and of one more item of each
pub each_more : {A B : Type 0} (R : ℕ → A → B → Type 0) (xs : List A) (ys : List B) (x : A) (y : B) → length ys ≡ length xs
    → ((n : ℕ) (a : A) (b : B) → slice_get xs n ≡ Some a → slice_get ys n ≡ Some b → R n a b) → R (length xs) x y
    → (n : ℕ) (a : A) (b : B) → slice_get (xs ++ x ∷ []) n ≡ Some a → slice_get (ys ++ y ∷ []) n ≡ Some b → R n a b
each_more R [] [] x y long each last zero a b at_a at_b =
    let same_a : x ≡ a = cc in
    let same_b : y ≡ b = cc in
    subst (λ c. R 0 c b) same_a (subst (λ c. R 0 x c) same_b last)
each_more R [] [] x y long each last (suc n) a b at_a at_b = absurd (cc)
each_more R [] (w ∷ ys) x y long each last n a b at_a at_b = absurd (omega arith)
each_more R (v ∷ xs) [] x y long each last n a b at_a at_b = absurd (omega arith)
each_more R (v ∷ xs) (w ∷ ys) x y long each last zero a b at_a at_b = each zero a b at_a at_b
each_more R (v ∷ xs) (w ∷ ys) x y long each last (suc n) a b at_a at_b =
    each_more (λ k. R (suc k)) xs ys x y (omega arith) (λ k c d. each (suc k) c d) last n a b at_a at_b

one_longer : {A B : Type 0} (xs : List A) (ys : List B) (x : A) (y : B) → length ys ≡ length xs → length (ys ++ y ∷ []) ≡ length (xs ++ x ∷ [])
one_longer xs ys x y long = omega (arith, length-append xs (x ∷ []), length-append ys (y ∷ []))

logged_stays : (setup : Setup) (old new : List Meaning) → Begins old new → (event : Event) (found : LogEvent) → IsLogged setup old event found → IsLogged setup new event found
logged_stays setup old new begins event found is = record {
  line = is.line;
  lo = is.lo;
  hi = is.hi;
  reading = is.reading;
  preconditions = is.preconditions;
  answer = shown_stays old new begins (class_of setup event) found.answer is.answer;
  other_level = is.other_level;
  omitted_stage = is.omitted_stage;
  decision = is.decision;
}

pub logged_more : (setup : Setup) (old new : List Meaning) → Begins old new → (events : List Event) (logged : List LogEvent) (event : Event) (found : LogEvent)
    → AreLoggedEvents setup old events logged → IsLogged setup new event found → AreLoggedEvents setup new (events ++ event ∷ []) (logged ++ found ∷ [])
logged_more setup old new begins events logged event found are is = record {
  all = one_longer events logged event found are.all;
  each = each_more (λ n. IsLogged setup new) events logged event found are.all (λ n e f at_e at_f. logged_stays setup old new begins e f (are.each n e f at_e at_f)) is;
}

logged_checkpoint_stays : (old new : List Meaning) → Begins old new → (number : ℕ) (checkpoint : Checkpoint) (found : LogEvent)
    → IsLoggedCheckpoint old number checkpoint found → IsLoggedCheckpoint new number checkpoint found
logged_checkpoint_stays old new begins number checkpoint found is = record {
  line = is.line;
  lo = is.lo;
  hi = is.hi;
  reading = is.reading;
  preconditions = is.preconditions;
  answer = checkpoint_stays old new begins checkpoint found.answer is.answer;
  other_level = is.other_level;
  omitted_stage = is.omitted_stage;
  decision = is.decision;
}

pub logged_checkpoint_more : (old new : List Meaning) → Begins old new → (checkpoints : List Checkpoint) (logged : List LogEvent) (checkpoint : Checkpoint) (found : LogEvent)
    → AreLoggedCheckpoints old checkpoints logged → IsLoggedCheckpoint new (length checkpoints + 1) checkpoint found → AreLoggedCheckpoints new (checkpoints ++ checkpoint ∷ []) (logged ++ found ∷ [])
logged_checkpoint_more old new begins checkpoints logged checkpoint found are is = record {
  all = one_longer checkpoints logged checkpoint found are.all;
  each = each_more (λ n. IsLoggedCheckpoint new (n + 1)) checkpoints logged checkpoint found are.all
      (λ n c f at_c at_f. logged_checkpoint_stays old new begins (n + 1) c f (are.each n c f at_c at_f)) is;
}

-- when the pool has grown, what was found stays
pub logged_stay : (setup : Setup) (old new : List Meaning) → Begins old new → (events : List Event) (logged : List LogEvent) → AreLoggedEvents setup old events logged → AreLoggedEvents setup new events logged
logged_stay setup old new begins events logged are = record {
  all = are.all;
  each = λ n e f at_e at_f. logged_stays setup old new begins e f (are.each n e f at_e at_f);
}

pub checkpoints_stay : (old new : List Meaning) → Begins old new → (checkpoints : List Checkpoint) (logged : List LogEvent) → AreLoggedCheckpoints old checkpoints logged → AreLoggedCheckpoints new checkpoints logged
checkpoints_stay old new begins checkpoints logged are = record {
  all = are.all;
  each = λ n c f at_c at_f. logged_checkpoint_stays old new begins (n + 1) c f (are.each n c f at_c at_f);
}

-- one more event of a list
pub logged_next : (setup : Setup) (old new : List Meaning) → Begins old new → (events : List Event) (logged more : List LogEvent) (i : ℕ) (event : Event) (found : LogEvent)
    → i < length events → event ≡ get_or events i event → more ≡ logged ++ found ∷ [] → AreLoggedEvents setup old (take i events) logged → IsLogged setup new event found
    → AreLoggedEvents setup new (take (i + 1) events) more
logged_next setup old new begins events logged more i event found within at pushed are is =
    subst (AreLoggedEvents setup new (take (i + 1) events)) (sym pushed)
    (subst (λ l. AreLoggedEvents setup new l (logged ++ found ∷ [])) (sym (more_taken events i event within at)) (logged_more setup old new begins (take i events) logged event found are is))

pub logged_checkpoint_next : (old new : List Meaning) → Begins old new → (checkpoints : List Checkpoint) (logged more : List LogEvent) (i : ℕ) (checkpoint : Checkpoint) (found : LogEvent)
    → i < length checkpoints → checkpoint ≡ get_or checkpoints i checkpoint → more ≡ logged ++ found ∷ [] → AreLoggedCheckpoints old (take i checkpoints) logged → IsLoggedCheckpoint new (i + 1) checkpoint found
    → AreLoggedCheckpoints new (take (i + 1) checkpoints) more
logged_checkpoint_next old new begins checkpoints logged more i checkpoint found within at pushed are is =
    let here : i ≡ length (take i checkpoints) = sym (length_taken checkpoints i within) in
    subst (AreLoggedCheckpoints new (take (i + 1) checkpoints)) (sym pushed)
    (subst (λ l. AreLoggedCheckpoints new l (logged ++ found ∷ [])) (sym (more_taken checkpoints i checkpoint within at))
    (logged_checkpoint_more old new begins (take i checkpoints) logged checkpoint found are (subst (λ n. IsLoggedCheckpoint new (n + 1) checkpoint found) here is)))
