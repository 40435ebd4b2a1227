-- What stands in front of a page's sections and behind them.
use Rattle.std.specs.Prelude.{◌≡◌, refl, ℕ, Bool, true, ◌++◌, ◌+◌, ◌&&◌, not, nat_eq, nat_le, List, [], ◌∷◌, codes, map, if◌then◌else◌}
use Rattle.std.specs.List.{list_any, starts_with}
use Rattle.markup.specs.Pieces.{Piece, shown}
use Rattle.markup.specs.declared.frame.TheConstants.{BEFORE_TITLE, BEHIND_TITLE, PAGE_END}

-- up to the begin of `<main>`
abbrev pub begin_text : List ℕ → List ℕ
begin_text title = shown (Piece.fixed BEFORE_TITLE.now ∷ Piece.told title ∷ Piece.fixed BEHIND_TITLE.now ∷ [])

-- from the end of `<main>` on
abbrev pub end_text : List ℕ
end_text = shown (Piece.fixed PAGE_END.now ∷ [])

-- The policy lets nothing in but the page's own style, and stands in front of all that it is to bind.
begins_with_its_policy : BEFORE_TITLE.now ≡
    codes "<!DOCTYPE html>\n<html lang=\"en\">\n<head>\n<meta charset=\"utf-8\">\n"
    ++ codes "<meta http-equiv=\"Content-Security-Policy\" content=\"default-src 'none'; style-src 'unsafe-inline'\">\n"
    ++ codes "<meta name=\"viewport\" content=\"width=device-width, initial-scale=1\">\n"
    ++ codes "<title>"
begins_with_its_policy = refl

-- a letter of ASCII in lower case, as HTML reads names
abbrev pub lower : ℕ → ℕ
lower b = if nat_le 65 b && nat_le b 90 then b + 32 else b

-- what would run a program, or bring something in from elsewhere
abbrev pub reaches : List (List ℕ)
reaches = codes "<script" ∷ codes "src=" ∷ codes "href=" ∷ codes "url(" ∷ codes "@import" ∷ []

abbrev pub begins_reach : List ℕ → Bool
begins_reach text = list_any (starts_with nat_eq (map lower text)) reaches

-- none of these stands anywhere in a text
abbrev pub stays_within : List ℕ → Bool
stays_within [] = true
stays_within (b ∷ rest) = not (begins_reach (b ∷ rest)) && stays_within rest

abbrev pub StaysWithin : List ℕ → Type 0
StaysWithin text = stays_within text ≡ true

pub before_title_stays : StaysWithin BEFORE_TITLE.now
before_title_stays = refl

pub behind_title_stays : StaysWithin BEHIND_TITLE.now
behind_title_stays = refl

pub page_end_stays : StaysWithin PAGE_END.now
page_end_stays = refl
