-- Rows, one after another.
use Rattle.std.proofs.Common.{◌≡◌, ℕ, suc, ◌+◌, ◌<◌, ◌≤◌, ◌⊎◌, inl, inr, true, false, nat_lt, nat_le, List, [], ◌∷◌, ◌++◌, append_assoc, append-nil, length, get_or, drop, drop-cons, add-one, map, Some, None, slice_get, All, Contains, refl, sym, ap, ◌∙◌, subst, arith}
use Rattle.std.specs.Prelude.{option_and_then, Result, Ok, Err, IfOk}
use Rattle.std.proofs.lemmas.List.{map-append}
use Rattle.std.proofs.lemmas.Bool.Decides.{leb_tells}
use Rattle.std.proofs.lemmas.List.Elements.{All-append}
use Rattle.base_types.specs.declared.verdict.placed.PlacedLine.{PlacedLine}
use Rattle.history_model.proofs.Members.{not_in_none, in_cons, all_from}
use Rattle.history_model.specs.Histories.{History}
use Rattle.history_model.specs.Machine.{Step, Put, Reply}
use Rattle.object_past.specs.Modelled.{recorded, version_of}
use Rattle.object_past.specs.declared.removal.Removal.{Removal}
use Rattle.object_past.specs.declared.version.Version.{Version}
use Rattle.write_groups.specs.Modelled.{event_of}
use Rattle.write_groups.specs.declared.event.LogEvent.{LogEvent}
use Rattle.serial_machine.proofs.Unmade.{true_lt}
use Rattle.serial_machine.specs.Ordered.{AreRowsOf, IsInTurn, placed_at, placed_removal, puts_above, replies_from, reply_before, row_step}
use Rattle.serial_machine.specs.declared.rows.Row.{Row}

-- the rows of these steps, but for the rest
pub record AreRowsBefore (h : History) (steps rest : List Step) (rows : List Row) : Type 0 where
  pub turns : All (IsInTurn h) rows
  pub are : map row_step rows ++ rest ≡ steps

pub rows_none : (h : History) (steps rest : List Step) (rows : List Row) → rows ≡ [] → rest ≡ steps → AreRowsBefore h steps rest rows
rows_none h steps rest rows e is = subst (λ l. AreRowsBefore h steps rest l) (sym e) (record { turns = all_from (IsInTurn h) [] (λ x c. absurd (not_in_none c)); are = is })

pub rows_more : (h : History) (steps rest : List Step) (step : Step) (rows : List Row) (row : Row) → IsInTurn h row → row_step row ≡ step → AreRowsBefore h steps (step ∷ rest) rows
    → AreRowsBefore h steps rest (rows ++ row ∷ [])
rows_more h steps rest step rows row turn is before = record {
  turns = All-append (IsInTurn h) rows (row ∷ []) before.turns (all_from (IsInTurn h) (row ∷ []) (λ x c. one x (in_cons row [] x c)));
  are = ap (λ l. l ++ rest) (map-append row_step rows (row ∷ [])) ∙ append_assoc (map row_step rows) (row_step row ∷ []) rest ∙ ap (λ s. map row_step rows ++ s ∷ rest) is ∙ before.are;
}
  where
    one : (x : Row) → (row ≡ x) ⊎ Contains [] x → IsInTurn h x
    one x (inl e) = subst (λ z. IsInTurn h z) e turn
    one x (inr c) = absurd (not_in_none c)

pub rows_all : (h : History) (steps rest : List Step) (rows : List Row) → rest ≡ [] → AreRowsBefore h steps rest rows → AreRowsOf h steps rows
rows_all h steps rest rows none before = record { turns = before.turns; are = sym (append-nil (map row_step rows)) ∙ ap (λ l. map row_step rows ++ l) (sym none) ∙ before.are }

false_lt : (a b : ℕ) → b ≤ a → nat_lt a b ≡ false
false_lt a b l = go (leb_tells (suc a) b)
  where
    go : ((nat_le (suc a) b ≡ true) × (suc a ≤ b)) ⊎ ((nat_le (suc a) b ≡ false) × (b < suc a)) → nat_lt a b ≡ false
    go (inl w) = absurd (omega (arith, w.1, l))
    go (inr w) = w.0

-- the rest, by its first
pub rest_at : {X : Type 0} (xs : List X) (i : ℕ) (x : X) → i < length xs → x ≡ get_or xs i x → drop i xs ≡ x ∷ drop (i + 1) xs
rest_at xs i x l is = rw (add-one, drop-cons xs i x) (ap (λ z. z ∷ drop (suc i) xs) (sym is))

module _ (start : ℕ) (versions : List Version) (i : ℕ) (v : Version) (within : i < length versions) (is : v ≡ get_or versions i v) where
  pub put_next : start < v.revision → puts_above start (map version_of (drop i versions)) ≡ Put (version_of v) ∷ puts_above start (map version_of (drop (i + 1) versions))
  put_next l = ap (λ vs. puts_above start (map version_of vs)) (rest_at versions i v within is) ∙ rw (true_lt start v.revision l) refl

  pub put_skipped : v.revision ≤ start → puts_above start (map version_of (drop i versions)) ≡ puts_above start (map version_of (drop (i + 1) versions))
  put_skipped l = ap (λ vs. puts_above start (map version_of vs)) (rest_at versions i v within is) ∙ rw (false_lt start v.revision l) refl

pub removal_next : (lines : List PlacedLine) (removals : List Removal) (i : ℕ) (removal : Removal) → i < length removals → removal ≡ get_or removals i removal
    → map (placed_removal lines) (map recorded (drop i removals)) ≡ placed_removal lines (recorded removal) ∷ map (placed_removal lines) (map recorded (drop (i + 1) removals))
removal_next lines removals i removal within is = ap (λ rs. map (placed_removal lines) (map recorded rs)) (rest_at removals i removal within is)

module _ (lines : List PlacedLine) (log : List LogEvent) (i : ℕ) (event : LogEvent) (within : i < length log) (is : event ≡ get_or log i event) where
  pub reply_next : (place : ℕ) → option_and_then (λ (line : PlacedLine). placed_at line.answer) (slice_get lines i) ≡ Some place
      → replies_from lines i (map event_of (drop i log)) ≡ Reply i (event_of event) place ∷ replies_from lines (i + 1) (map event_of (drop (i + 1) log))
  reply_next place e = ap (λ es. replies_from lines i (map event_of es)) (rest_at log i event within is)
      ∙ ap (λ o. reply_before i (event_of event) o (replies_from lines (i + 1) (map event_of (drop (i + 1) log)))) e

  pub reply_skipped : option_and_then (λ (line : PlacedLine). placed_at line.answer) (slice_get lines i) ≡ None
      → replies_from lines i (map event_of (drop i log)) ≡ replies_from lines (i + 1) (map event_of (drop (i + 1) log))
  reply_skipped e = ap (λ es. replies_from lines i (map event_of es)) (rest_at log i event within is)
      ∙ ap (λ o. reply_before i (event_of event) o (replies_from lines (i + 1) (map event_of (drop (i + 1) log)))) e

pub rows_join : (h : History) (puts removals replies : List Step) (a b c : List Row) → AreRowsOf h puts a → AreRowsOf h removals b → AreRowsOf h replies c → AreRowsOf h ((puts ++ removals) ++ replies) ((a ++ b) ++ c)
rows_join h puts removals replies a b c x y z = record {
  turns = All-append (IsInTurn h) (a ++ b) c (All-append (IsInTurn h) a b x.turns y.turns) z.turns;
  are = map-append row_step (a ++ b) c ∙ ap (λ l. l ++ map row_step c) (map-append row_step a b) ∙ ap (λ l. (map row_step a ++ l) ++ map row_step c) y.are
      ∙ ap (λ l. (l ++ removals) ++ map row_step c) x.are ∙ ap (λ l. (puts ++ removals) ++ l) z.are;
}

pub both_ok : {X E : Type 0} (P Q R : X → Type 0) (o : Result X E) → ((x : X) → P x → Q x → R x) → IfOk o P → IfOk o Q → IfOk o R
both_ok P Q R (Ok x) f p q = f x p q
both_ok P Q R (Err e) f p q = tt
