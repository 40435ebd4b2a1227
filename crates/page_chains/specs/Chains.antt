-- Chains of pages: from a first page, by the tokens, to a page without one.
use Rattle.std.specs.Prelude.{ℕ, zero, suc, ◌==◌, ◌&&◌, ◌||◌, Bool, false, List, [], ◌∷◌, ◌++◌, length, Option, Some, None, is_some, filter, fold, option_map, option_and_then, bytes_eq, codes, decimal, nat_lt, int_lt, if◌then◌else◌}
use Rattle.std.specs.List.{filter_map, flat_map}
use Rattle.std.specs.Ordering.{int_eq}
use Rattle.audit_event.specs.declared.event.Event.{Event}
use Rattle.setup_file.specs.declared.setup.Checkpoint.{Checkpoint}
use Rattle.setup_file.specs.declared.setup.Setup.{Setup}
use Rattle.page_chains.specs.declared.page.Asked.{Asked}
use Rattle.page_chains.specs.declared.page.Asked.TheVariants.{First, Next, Unclear}
use Rattle.page_chains.specs.declared.page.Page.{Page}
use Rattle.page_chains.specs.declared.page.PageKey.{PageKey}
use Rattle.page_chains.specs.Pages.{is_first, pages_of}

-- what a page has in common with the one before it, and the token that leads to it
abbrev pub key_with : Page → List ℕ → PageKey
key_with page token = record { group = page.group; resource = page.resource; namespace = page.namespace; revision = page.revision; token = token }

abbrev pub same_page_key : PageKey → PageKey → Bool
same_page_key a b =
    bytes_eq a.group b.group && (bytes_eq a.resource b.resource && (bytes_eq a.namespace b.namespace && ((a.revision == b.revision) && bytes_eq a.token b.token)))

-- the page was asked for by this token, for a list of this resource at this revision
abbrev pub is_asked_by : PageKey → Page → Asked → Bool
is_asked_by key page First = false
is_asked_by key page (Next token) = same_page_key (key_with page token) key
is_asked_by key page Unclear = false

abbrev pub asks : PageKey → Page → Bool
asks key page = is_asked_by key page page.asked

-- the order in which events are judged: by the time of the answer, and then by line
abbrev pub comes_before : Page → Page → Bool
comes_before a b = int_lt a.staged.0 b.staged.0 || (int_eq a.staged.0 b.staged.0 && nat_lt a.line b.line)

abbrev pub sooner : Option Page → Page → Option Page
sooner None page = Some page
sooner (Some found) page = if comes_before page found then Some page else Some found

-- the first of these in the order of judgement
abbrev pub earliest : List Page → Option Page
earliest pages = fold sooner None pages

abbrev pub next_by : List Page → Page → Option (List ℕ) → Option Page
next_by pages page None = None
next_by pages page (Some token) = earliest (filter (asks (key_with page token)) pages)

-- the page that follows this one
abbrev pub next_of : List Page → Page → Option Page
next_of pages page = next_by pages page page.token

-- the pages from this one to one without a token, where they are all there and at most so many. Each page has one that
-- follows it at most, so a chain of more pages than there are is one in which a page comes twice, and it has no end.
abbrev pub chain_within : ℕ → List Page → Page → Option (List Page)
chain_within zero pages page = None
chain_within (suc most) pages page =
    if is_some page.token then option_map (λ rest. page ∷ rest) (option_and_then (chain_within most pages) (next_of pages page)) else Some (page ∷ [])

-- a chain is a list of its scope at its revision, with the items of all its pages in order
abbrev pub checkpoint_of : Page → List Page → Checkpoint
checkpoint_of first chain = record {
  name = codes "pages:" ++ decimal first.line;
  group = first.group;
  resource = first.resource;
  namespace = first.scope;
  revision = first.revision;
  items = flat_map (λ (page : Page). page.items) chain;
}

-- a first page is asked for without a token, and has one
abbrev pub begins : Page → Bool
begins page = is_first page.asked && is_some page.token

abbrev pub chain_of : List Page → Page → Option Checkpoint
chain_of pages page = if begins page then option_map (checkpoint_of page) (chain_within (length pages) pages page) else None

abbrev pub chains_in : List Page → List Checkpoint
chains_in pages = filter_map (chain_of pages) pages

-- the chains in the order of their first pages, which is that of the lines
abbrev pub chains_of : Setup → List Event → List Checkpoint
chains_of setup events = chains_in (pages_of setup events)
