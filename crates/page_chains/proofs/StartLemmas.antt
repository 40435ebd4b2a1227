-- The chain that begins at a place, if one does.
use Rattle.std.proofs.Common.{◌≡◌, ℕ, suc, ◌-◌, ◌<◌, Bool, true, false, List, length, get_or, Option, Some, None, refl, sym, ap, ◌∙◌, if◌then◌else◌, arith}
use Rattle.std.specs.Prelude.{is_some, option_map, option_and_then, slice_get}
use Rattle.std.proofs.lemmas.Option.{slice_get_read}
use Rattle.page_chains.specs.declared.page.Page.{Page}
use Rattle.page_chains.specs.Chains.{checkpoint_of, begins, chain_within, chain_of}
use Rattle.page_chains.specs.Links.{AreLinks, stepped}
use Rattle.page_chains.proofs.StepLemmas.{no_end}

module _ (pages : List Page) (first : ℕ) (page : Page) (within : first < length pages) (is : page ≡ get_or pages first page) where
  at_page : slice_get pages first ≡ Some page
  at_page = slice_get_read pages (length pages) first page refl within is

  whole : option_and_then (chain_of pages) (slice_get pages first) ≡ (if begins page then option_map (checkpoint_of page) (chain_within (length pages) pages page) else None)
  whole = ap (option_and_then (chain_of pages)) at_page

  pub not_begun : begins page ≡ false → None ≡ option_and_then (chain_of pages) (slice_get pages first)
  not_begun e = sym (whole ∙ ap (λ b. if b then option_map (checkpoint_of page) (chain_within (length pages) pages page) else None) e)

  pub begun_with : begins page ≡ true → (o : Option (List Page)) → o ≡ option_and_then (chain_within (length pages) pages) (slice_get pages first)
      → option_map (checkpoint_of page) o ≡ option_and_then (chain_of pages) (slice_get pages first)
  begun_with e o chain =
      ap (option_map (checkpoint_of page)) (chain ∙ ap (option_and_then (chain_within (length pages) pages)) at_page)
      ∙ sym (whole ∙ ap (λ b. if b then option_map (checkpoint_of page) (chain_within (length pages) pages page) else None) e)

  pub endless : (links : List ℕ) → AreLinks pages links → (last : ℕ) (end : Page) → last < length pages → end ≡ get_or pages last end
      → last ≡ stepped links (length pages - 1) first → is_some end.token ≡ true → None ≡ option_and_then (chain_of pages) (slice_get pages first)
  endless links h last end inside ends steps goes =
      let one : suc (length pages - 1) ≡ length pages = omega arith in
      let there : slice_get pages (stepped links (length pages - 1) first) ≡ Some end = ap (slice_get pages) (sym steps) ∙ slice_get_read pages (length pages) last end refl inside ends in
      let none : chain_within (length pages) pages page ≡ None = ap (λ n. chain_within n pages page) (sym one) ∙ no_end pages links h (length pages - 1) first page end within at_page there goes in
      sym (whole ∙ ap (λ o. if begins page then option_map (checkpoint_of page) o else None) none ∙ by_test (begins page))
    where
      by_test : (b : Bool) → (if b then option_map (checkpoint_of page) None else None) ≡ None
      by_test true = refl
      by_test false = refl
