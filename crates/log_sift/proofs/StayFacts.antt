-- The lines of the text that stays.
use Rattle.std.proofs.Common.{◌≡◌, ◌≢◌, ℕ, ◌<◌, List, [], ◌∷◌, ◌++◌, length, map, nat_eq, if◌then◌else◌, Bool, true, false, refl, sym, ◌∙◌, ap, subst, arith, append_assoc, true≢false}
use Rattle.std.specs.Prelude.{⊤}
use Rattle.std.proofs.lemmas.List.{append-nil}
use Rattle.std.proofs.lemmas.List.Elements.{All-cons, All-nil}
use Rattle.line_reader.specs.Lines.{extend_first, extend_rest, last_line, lines_of, newline, rest_of, whole_lines}
use Rattle.line_reader.specs.Search.{HasNoNewline}
use Rattle.log_sift.specs.declared.answer.Fate.{Fate}
use Rattle.log_sift.specs.declared.answer.Fate.TheVariants.{Blank, Stays, Left}
use Rattle.log_sift.specs.Cutting.{closed}
use Rattle.log_sift.specs.Sifted.{kept_text, staying}
use Rattle.log_sift.proofs.CutFacts.{begins_closed, begins_open}

-- the lines that stay
abbrev pub staying_lines : List (List ℕ) → List Fate → List (List ℕ)
staying_lines lines [] = []
staying_lines [] (fate ∷ fates) = []
staying_lines (line ∷ lines) (Blank ∷ fates) = line ∷ staying_lines lines fates
staying_lines (line ∷ lines) (Stays ∷ fates) = line ∷ staying_lines lines fates
staying_lines (line ∷ lines) (Left cause ∷ fates) = staying_lines lines fates

-- no line has a newline
abbrev pub AreLines : List (List ℕ) → Type 0
AreLines [] = ⊤
AreLines (line ∷ lines) = HasNoNewline line × AreLines lines

differs : (byte : ℕ) → nat_eq byte newline ≡ false → byte ≢ newline
differs byte is = λ same. true≢false (subst (λ b. nat_eq b newline ≡ false) same is)

begun_plain : (byte : ℕ) (lines : List (List ℕ)) (rest : List ℕ) → byte ≢ newline → AreLines lines × HasNoNewline rest → AreLines (extend_first byte lines) × HasNoNewline (extend_rest byte lines rest)
begun_plain byte [] rest other are = (tt, All-cons (λ b. b ≢ newline) byte rest other are.1)
begun_plain byte (line ∷ lines) rest other are = ((All-cons (λ b. b ≢ newline) byte line other are.0.0, are.0.1), are.1)

pub plain : (bytes : List ℕ) → AreLines (whole_lines bytes) × HasNoNewline (rest_of bytes)
plain [] = (tt, All-nil (λ b. b ≢ newline))
plain (byte ∷ bytes) = go (nat_eq byte newline) refl (plain bytes)
  where
    go : (test : Bool) → nat_eq byte newline ≡ test → AreLines (whole_lines bytes) × HasNoNewline (rest_of bytes)
        → AreLines (if test then [] ∷ whole_lines bytes else extend_first byte (whole_lines bytes)) × HasNoNewline (if test then rest_of bytes else extend_rest byte (whole_lines bytes) (rest_of bytes))
    go true is are = ((All-nil (λ b. b ≢ newline), are.0), are.1)
    go false is are = begun_plain byte (whole_lines bytes) (rest_of bytes) (differs byte is) are

nothing_stays : (fates : List Fate) → staying [] fates ≡ []
nothing_stays [] = refl
nothing_stays (fate ∷ fates) = refl

no_line_stays : (fates : List Fate) → staying_lines [] fates ≡ []
no_line_stays [] = refl
no_line_stays (fate ∷ fates) = refl

-- a last line that stays
one_line : (rest : List ℕ) (fates : List Fate) → 0 < length rest → HasNoNewline rest → lines_of (rest ++ staying [] fates) ≡ rest ∷ staying_lines [] fates
one_line rest fates some none =
    ap (λ more. lines_of (rest ++ more)) (nothing_stays fates) ∙ ap lines_of (append-nil rest) ∙ (begins_open rest some none).lines ∙ ap (λ lines. rest ∷ lines) (sym (no_line_stays fates))

last_stays : (rest : List ℕ) (fates : List Fate) → HasNoNewline rest → lines_of (staying (last_line rest) fates) ≡ staying_lines (last_line rest) fates
last_stays [] fates none = ap lines_of (nothing_stays fates) ∙ sym (no_line_stays fates)
last_stays (byte ∷ rest) [] none = refl
last_stays (byte ∷ rest) (Blank ∷ fates) none = one_line (byte ∷ rest) fates (omega arith) none
last_stays (byte ∷ rest) (Stays ∷ fates) none = one_line (byte ∷ rest) fates (omega arith) none
last_stays (byte ∷ rest) (Left cause ∷ fates) none = ap lines_of (nothing_stays fates) ∙ sym (no_line_stays fates)

whole_line : (line more : List ℕ) → HasNoNewline line → lines_of (closed line ++ more) ≡ line ∷ lines_of more
whole_line line more none = ap lines_of (append_assoc line (newline ∷ []) more) ∙ (begins_closed line more none).lines

stay_lines : (lines : List (List ℕ)) (rest : List ℕ) (fates : List Fate) → AreLines lines → HasNoNewline rest
    → lines_of (staying (map closed lines ++ last_line rest) fates) ≡ staying_lines (lines ++ last_line rest) fates
stay_lines [] rest fates are none = last_stays rest fates none
stay_lines (line ∷ lines) rest [] are none = refl
stay_lines (line ∷ lines) rest (Blank ∷ fates) are none =
    whole_line line (staying (map closed lines ++ last_line rest) fates) are.0 ∙ ap (λ more. line ∷ more) (stay_lines lines rest fates are.1 none)
stay_lines (line ∷ lines) rest (Stays ∷ fates) are none =
    whole_line line (staying (map closed lines ++ last_line rest) fates) are.0 ∙ ap (λ more. line ∷ more) (stay_lines lines rest fates are.1 none)
stay_lines (line ∷ lines) rest (Left cause ∷ fates) are none = stay_lines lines rest fates are.1 none

-- the lines of the text that stays are the lines that stay
pub lines_kept : (log : List ℕ) (fates : List Fate) → lines_of (kept_text log fates) ≡ staying_lines (lines_of log) fates
lines_kept log fates = let are = plain log in stay_lines (whole_lines log) (rest_of log) fates are.0 are.1
