-- Where each page leads to, by places, and where many steps lead to.
use Rattle.std.specs.Prelude.{◌≡◌, ℕ, zero, suc, ◌<◌, List, length, Option, Some, None, All, slice_get, slice_index}
use Rattle.page_chains.specs.declared.page.Page.{Page}
use Rattle.page_chains.specs.Chains.{next_of}

-- the page at this place leads to the one at that place; a page that leads to none leads to itself
abbrev pub LeadsTo : List Page → ℕ → ℕ → Option Page → Type 0
LeadsTo pages from to None = to ≡ from
LeadsTo pages from to (Some next) = slice_get pages to ≡ Some next

abbrev pub IsLink : List Page → ℕ → ℕ → Type 0
IsLink pages from to = (page : Page) → slice_get pages from ≡ Some page → LeadsTo pages from to (next_of pages page)

pub record AreLinks (pages : List Page) (links : List ℕ) : Type 0 where
  pub each : length links ≡ length pages
  pub within : All (λ to. to < length pages) links
  pub right : (from : ℕ) → from < length pages → IsLink pages from (slice_index links from)

-- where so many steps lead to
abbrev pub stepped : List ℕ → ℕ → ℕ → ℕ
stepped links zero from = from
stepped links (suc steps) from = stepped links steps (slice_index links from)

-- the same of each place
pub record AreSteps (links : List ℕ) (steps : ℕ) (reached : List ℕ) : Type 0 where
  pub each : length reached ≡ length links
  pub within : All (λ to. to < length links) reached
  pub right : (from : ℕ) → from < length links → slice_index reached from ≡ stepped links steps from
