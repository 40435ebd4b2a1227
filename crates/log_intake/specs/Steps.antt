-- Steps in order, up to the first that is refused.
use Rattle.std.specs.Prelude.{◌≡◌, ◌⊎◌, List, [], ◌∷◌, Result, Ok, Err}

abbrev pub InOrder : {State Item Stop : Type 0} → (State → Item → Result State Stop → Type 0) → State → List Item → Result State Stop → Type 0
InOrder {State} {Item} {Stop} Step state [] found = found ≡ Ok state
InOrder {State} {Item} {Stop} Step state (item ∷ items) found =
    ((next : State) × Step state item (Ok next) × InOrder Step next items found)
    ⊎ ((stop : Stop) × Step state item (Err stop) × (found ≡ Err stop))
