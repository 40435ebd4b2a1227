-- What a chain of pages is, whatever its length.
use Rattle.std.specs.Prelude.{◌≡◌, ℕ, true, false, List, [], ◌∷◌, Option, Some, None, All, Contains, filter}
use Rattle.std.specs.List.{filter_map}
use Rattle.setup_file.specs.declared.setup.Checkpoint.{Checkpoint}
use Rattle.page_chains.specs.declared.page.Page.{Page}
use Rattle.page_chains.specs.Chains.{key_with, asks, comes_before, next_of, checkpoint_of, begins}

-- one of these, and none of them comes before it
pub record IsFirstOf (pages : List Page) (page : Page) : Type 0 where
  pub among : Contains pages page
  pub first : All (λ other. comes_before other page ≡ false) pages

-- the first of these in the order of judgement; none where there are none
abbrev pub IsEarliest : List Page → Option Page → Type 0
IsEarliest pages None = pages ≡ []
IsEarliest pages (Some page) = IsFirstOf pages page

-- the pages after a page, each the one that follows the page before it, to one without a token
abbrev pub AreAfter : List Page → Page → List Page → Type 0
AreAfter pages page [] = page.token ≡ None
AreAfter pages page (next ∷ later) = (next_of pages page ≡ Some next) × AreAfter pages next later

-- the chain that begins with this page has this checkpoint
pub record IsChain (pages : List Page) (first : Page) (checkpoint : Checkpoint) : Type 0 where
  pub starts : begins first ≡ true
  pub later : List Page
  pub after : AreAfter pages first later
  pub is : checkpoint ≡ checkpoint_of first (first ∷ later)

-- the checkpoint of the chain that begins with this page; none where there is no such chain, since a page is missing or
-- would come twice
abbrev pub IsChainOf : List Page → Page → Option Checkpoint → Type 0
IsChainOf pages first None = (checkpoint : Checkpoint) → ¬ IsChain pages first checkpoint
IsChainOf pages first (Some checkpoint) = IsChain pages first checkpoint

-- the checkpoints of all chains of these pages, in the order of their first pages; the page that follows another is the
-- first of those that were asked for by its token
pub record AreChains (pages : List Page) (found : List Checkpoint) : Type 0 where
  pub next : (page : Page) (token : List ℕ) → page.token ≡ Some token → IsEarliest (filter (asks (key_with page token)) pages) (next_of pages page)
  pub chain : Page → Option Checkpoint
  pub each : All (λ page. IsChainOf pages page (chain page)) pages
  pub are : found ≡ filter_map chain pages
