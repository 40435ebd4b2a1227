-- What is known of the first page that a token leads to.
use Rattle.std.specs.Prelude.{◌≡◌, ℕ, Bool, List, Option, Some, None, option_and_then, filter, slice_get}
use Rattle.std.specs.HashMap.{HashMap, get}
use Rattle.hash_seed.specs.declared.seed.Seeded.{Seeded}
use Rattle.page_chains.specs.declared.page.Asked.{Asked}
use Rattle.page_chains.specs.declared.page.Asked.TheVariants.{First, Next, Unclear}
use Rattle.page_chains.specs.declared.page.Page.{Page}
use Rattle.page_chains.specs.declared.page.PageKey.{PageKey}
use Rattle.page_chains.specs.Chains.{key_with, asks, earliest}

-- places of pages by their keys
abbrev pub Places : Type 0
Places = HashMap PageKey ℕ Seeded

-- the key by which a page was asked for
abbrev pub key_asked : Page → Asked → Option PageKey
key_asked page First = None
key_asked page (Next token) = Some (key_with page token)
key_asked page Unclear = None

abbrev pub asked_key : Page → Option PageKey
asked_key page = key_asked page page.asked

-- the page at the place that is known for this key
abbrev pub known : (PageKey → PageKey → Bool) → List Page → Places → PageKey → Option Page
known same pages places key = option_and_then (slice_get pages) (get same places key)

-- for each key, the first in the order of judgement of these pages that was asked for by it
abbrev pub FindsFirst : (PageKey → PageKey → Bool) → List Page → List Page → Places → Type 0
FindsFirst same pages seen places = (key : PageKey) → known same pages places key ≡ earliest (filter (asks key) seen)
