-- Of a log that a judge takes nothing is left out.
use Rattle.std.proofs.Common.{◌≡◌, ℕ, suc, ◌+◌, inl, inr, List, [], ◌∷◌, ◌++◌, length, map, nat_eq, if◌then◌else◌, Bool, true, false, Ok, Err, refl, sym, ◌∙◌, ap, subst, arith, append_assoc, length-append}
use Rattle.std.specs.Prelude.{⊤}
use Rattle.std.proofs.lemmas.Bool.{eqb-true}
use Rattle.std.proofs.lemmas.List.{append-nil}
use Rattle.line_reader.specs.Lines.{extend_first, extend_rest, is_dropped, last_line, lines_of, newline, number_after, number_line, numbered, rest_of, whole_lines}
use Rattle.audit_event.specs.declared.event.Event.{Event}
use Rattle.log_intake.specs.Log.{IsLogRead, LogState, TakesLine, nothing_read}
use Rattle.log_intake.specs.Steps.{InOrder}
use Rattle.log_sift.specs.declared.answer.Fate.{Fate}
use Rattle.log_sift.specs.declared.answer.Fate.TheVariants.{Blank, Stays, Left}
use Rattle.log_sift.specs.Cutting.{closed, line_texts}
use Rattle.log_sift.specs.Sift.{IsSifted, SiftsLines}
use Rattle.log_sift.specs.Sifted.{kept_text, left_lines, staying}
use Rattle.log_sift.proofs.OneFacts.{lines_once, none_distinct}
use Rattle.log_sift.specs.Taken.{AreSameButLine}
use Rattle.log_sift.proofs.SameFacts.{line_same}

-- no line is left out
abbrev pub AllStay : List Fate → Type 0
AllStay [] = ⊤
AllStay (Blank ∷ fates) = AllStay fates
AllStay (Stays ∷ fates) = AllStay fates
AllStay (Left cause ∷ fates) = ⊥

pub record SiftsWhole (kept : List Event) (lines : List (List ℕ)) : Type 0 where
  pub fates : List Fate
  pub after : List Event
  pub sifts : SiftsLines kept lines fates after
  pub stay : AllStay fates

-- lines that a judge takes stay
taken_whole : (lines : List (List ℕ)) (number : ℕ) (state final : LogState) (kept : List Event) → AreSameButLine state.kept kept → InOrder TakesLine state (numbered number lines) (Ok final) → SiftsWhole kept lines
taken_whole [] number state final kept are takes = record { fates = []; after = kept; sifts = refl; stay = tt }
taken_whole (line ∷ lines) number state final kept are takes = go (is_dropped line) refl takes (λ next ys. taken_whole lines (number_after number) next final ys)
  where
    go : (test : Bool) → is_dropped line ≡ test → InOrder TakesLine state (number_line test (number_after number) line (numbered (number_after number) lines)) (Ok final)
        → ((next : LogState) (ys : List Event) → AreSameButLine next.kept ys → InOrder TakesLine next (numbered (number_after number) lines) (Ok final) → SiftsWhole ys lines) → SiftsWhole kept (line ∷ lines)
    go true dropped taken again =
        let rest = again state kept are taken in
        record { fates = Blank ∷ rest.fates; after = rest.after; sifts = (kept, (dropped, refl), rest.sifts); stay = rest.stay }
    go false filled (inl (next, step, taken)) again =
        let here = line_same state next kept (record { number = number_after number; bytes = line }) are step in
        let rest = again next here.0 here.2 taken in
        record { fates = Stays ∷ rest.fates; after = rest.after; sifts = (here.0, (filled, here.1), rest.sifts); stay = rest.stay }
    go false filled (inr (stop, step, is)) again = absurd (let no : Ok final ≡ Err stop = is in cc)

none_left : (number : ℕ) (fates : List Fate) → AllStay fates → left_lines number fates ≡ []
none_left number [] stay = refl
none_left number (Blank ∷ fates) stay = none_left (number + 1) fates stay
none_left number (Stays ∷ fates) stay = none_left (number + 1) fates stay
none_left number (Left cause ∷ fates) stay = absurd stay

-- one text behind another
abbrev joined : List (List ℕ) → List ℕ
joined [] = []
joined (text ∷ texts) = text ++ joined texts

joined-append : (xs ys : List (List ℕ)) → joined (xs ++ ys) ≡ joined xs ++ joined ys
joined-append [] ys = refl
joined-append (x ∷ xs) ys = ap (λ rest. x ++ rest) (joined-append xs ys) ∙ sym (append_assoc x (joined xs) (joined ys))

all_stays : (texts : List (List ℕ)) (fates : List Fate) → AllStay fates → length fates ≡ length texts → staying texts fates ≡ joined texts
all_stays [] [] stay long = refl
all_stays [] (fate ∷ fates) stay long = absurd (omega (arith, long))
all_stays (text ∷ texts) [] stay long = absurd (omega (arith, long))
all_stays (text ∷ texts) (Blank ∷ fates) stay long = ap (λ rest. text ++ rest) (all_stays texts fates stay (omega (arith, long)))
all_stays (text ∷ texts) (Stays ∷ fates) stay long = ap (λ rest. text ++ rest) (all_stays texts fates stay (omega (arith, long)))
all_stays (text ∷ texts) (Left cause ∷ fates) stay long = absurd stay

last_text : (rest : List ℕ) → joined (last_line rest) ≡ rest
last_text [] = refl
last_text (byte ∷ rest) = append-nil (byte ∷ rest)

begun_text : (byte : ℕ) (lines : List (List ℕ)) (rest bytes : List ℕ) → joined (map closed lines) ++ rest ≡ bytes → joined (map closed (extend_first byte lines)) ++ extend_rest byte lines rest ≡ byte ∷ bytes
begun_text byte [] rest bytes is = ap (λ more. byte ∷ more) is
begun_text byte (line ∷ lines) rest bytes is = ap (λ more. byte ∷ more) is

cut_text : (bytes : List ℕ) → joined (map closed (whole_lines bytes)) ++ rest_of bytes ≡ bytes
cut_text [] = refl
cut_text (byte ∷ bytes) = go (nat_eq byte newline) refl (cut_text bytes)
  where
    go : (test : Bool) → nat_eq byte newline ≡ test → joined (map closed (whole_lines bytes)) ++ rest_of bytes ≡ bytes
        → joined (map closed (if test then [] ∷ whole_lines bytes else extend_first byte (whole_lines bytes))) ++ (if test then rest_of bytes else extend_rest byte (whole_lines bytes) (rest_of bytes)) ≡ byte ∷ bytes
    go true is rest = ap (λ more. newline ∷ more) rest ∙ ap (λ b. b ∷ bytes) (sym (eqb-true byte newline is))
    go false is rest = begun_text byte (whole_lines bytes) (rest_of bytes) bytes rest

whole_text : (log : List ℕ) → joined (line_texts log) ≡ log
whole_text log =
    joined-append (map closed (whole_lines log)) (last_line (rest_of log))
    ∙ ap (λ rest. joined (map closed (whole_lines log)) ++ rest) (last_text (rest_of log))
    ∙ cut_text log

length-map : (lines : List (List ℕ)) → length (map closed lines) ≡ length lines
length-map [] = refl
length-map (line ∷ lines) = ap (λ n. suc n) (length-map lines)

as_many : (log : List ℕ) → length (line_texts log) ≡ length (lines_of log)
as_many log =
    length-append (map closed (whole_lines log)) (last_line (rest_of log))
    ∙ ap (λ n. n + length (last_line (rest_of log))) (length-map (whole_lines log))
    ∙ sym (length-append (whole_lines log) (last_line (rest_of log)))

a_fate_each : (lines : List (List ℕ)) (kept after : List Event) (fates : List Fate) → SiftsLines kept lines fates after → length fates ≡ length lines
a_fate_each [] kept after [] sifts = refl
a_fate_each [] kept after (fate ∷ fates) sifts = absurd sifts
a_fate_each (line ∷ lines) kept after [] sifts = absurd sifts
a_fate_each (line ∷ lines) kept after (fate ∷ fates) sifts = ap (λ n. suc n) (a_fate_each lines sifts.0 after fates sifts.2)

of_taken : (log : List ℕ) (state : LogState) (fates : List Fate) → InOrder TakesLine nothing_read (numbered 0 (lines_of log)) (Ok state) → IsSifted log fates → (kept_text log fates ≡ log) × (left_lines 0 fates ≡ [])
of_taken log state fates takes sifted =
    let whole = taken_whole (lines_of log) 0 nothing_read state [] tt takes in
    let same : fates ≡ whole.fates = (lines_once (lines_of log) [] sifted.kept whole.after fates whole.fates none_distinct sifted.sifts whole.sifts).0 in
    let stay : AllStay fates = subst AllStay (sym same) whole.stay in
    let long : length fates ≡ length (line_texts log) = a_fate_each (lines_of log) [] sifted.kept fates sifted.sifts ∙ sym (as_many log) in
    (all_stays (line_texts log) fates stay long ∙ whole_text log, none_left 0 fates stay)

pub nothing_left : (log : List ℕ) (events : List Event) (fates : List Fate) → IsLogRead log (Ok events) → IsSifted log fates → (kept_text log fates ≡ log) × (left_lines 0 fates ≡ [])
nothing_left log events fates (inl (short, (Ok state, takes, is))) sifted = of_taken log state fates takes sifted
nothing_left log events fates (inl (short, (Err stop, takes, is))) sifted = absurd cc
nothing_left log events fates (inr (long, (Ok state, takes, is))) sifted = absurd cc
nothing_left log events fates (inr (long, (Err stop, takes, is))) sifted = absurd cc
