-- A chain that is sought up to a bound is a chain whatever its length: no page comes twice in one, so there are no more
-- pages in a chain than there are pages.
use Rattle.std.proofs.Common.{◌≡◌, ◌≢◌, ℕ, zero, suc, ◌<◌, ◌≤◌, Bool, true, false, List, [], ◌∷◌, length, Option, Some, None, refl, sym, ap, subst, ◌∙◌, if◌then◌else◌, arith}
use Rattle.std.specs.Prelude.{is_some, filter, fold, option_map, option_and_then}
use Rattle.std.proofs.lemmas.Bool.{true≢false}
use Rattle.page_chains.specs.declared.page.Page.{Page}
use Rattle.page_chains.specs.Chains.{key_with, asks, comes_before, sooner, next_by, next_of, chain_within, checkpoint_of, begins, chain_of}
use Rattle.page_chains.specs.Following.{AreAfter, IsChainOf}
use Rattle.page_chains.proofs.Members.{Each, Maybe, each_kept, Among, among_itself, AreApart, few_apart}

sooner_of : (P : Page → Type 0) (o : Option Page) (page : Page) → Maybe P o → P page → Maybe P (sooner o page)
sooner_of P None page h p = p
sooner_of P (Some found) page h p = by_order (comes_before page found)
  where
    by_order : (b : Bool) → Maybe P (if b then Some page else Some found)
    by_order true = p
    by_order false = h

pub earliest_of : (P : Page → Type 0) (o : Option Page) (pages : List Page) → Maybe P o → Each P pages → Maybe P (fold sooner o pages)
earliest_of P o [] h each = h
earliest_of P o (page ∷ pages) h each = earliest_of P (sooner o page) pages (sooner_of P o page h each.0) each.1

-- a page that is followed has a token
pub has_token : (pages : List Page) (page next : Page) (token : Option (List ℕ)) → next_by pages page token ≡ Some next → is_some token ≡ true
has_token pages page next None e = absurd (cc)
has_token pages page next (Some token) e = refl

module _ (pages : List Page) where
  pub none_after : (page : Page) → page.token ≡ None → next_of pages page ≡ None
  none_after page none = ap (next_by pages page) none

  -- the page that follows is one of them, and was asked for by the token
  pub next_is : (P : Page → Type 0) (page : Page) (token : Option (List ℕ)) → Each P pages
      → Maybe (λ next. P next × ((t : List ℕ) × (token ≡ Some t) × (asks (key_with page t) next ≡ true))) (next_by pages page token)
  next_is P page None each = tt
  next_is P page (Some token) each =
      elim_next (next_by pages page (Some token)) (earliest_of (λ x. P x × (asks (key_with page token) x ≡ true)) None (filter (asks (key_with page token)) pages) tt (each_kept P (asks (key_with page token)) pages each))
    where
      elim_next : (o : Option Page) → Maybe (λ x. P x × (asks (key_with page token) x ≡ true)) o
          → Maybe (λ next. P next × ((t : List ℕ) × (Some token ≡ Some t) × (asks (key_with page t) next ≡ true))) o
      elim_next None h = tt
      elim_next (Some next) h = (h.0, (token, refl, h.1))

  pub followed : (P : Page → Type 0) (page next : Page) → Each P pages → next_of pages page ≡ Some next
      → P next × ((t : List ℕ) × (page.token ≡ Some t) × (asks (key_with page t) next ≡ true))
  followed P page next each is =
      subst (Maybe (λ next. P next × ((t : List ℕ) × (page.token ≡ Some t) × (asks (key_with page t) next ≡ true)))) is (next_is P page page.token each)

  -- what was found up to a bound
  abbrev Found : (Page → Option (List Page)) → Type 0
  Found within = (page : Page) (chain : List Page) → within page ≡ Some chain → (later : List Page) × (chain ≡ page ∷ later) × AreAfter pages page later

  found_rest : (within : Page → Option (List Page)) → Found within → (page next : Page) (chain : List Page) (o : Option (List Page)) → next_of pages page ≡ Some next → within next ≡ o
      → option_map (λ rest. page ∷ rest) o ≡ Some chain → (later : List Page) × (chain ≡ page ∷ later) × AreAfter pages page later
  found_rest within found page next chain None is rest e = absurd (cc)
  found_rest within found page next chain (Some others) is rest e =
      let behind = found next others rest in
      let whole : chain ≡ page ∷ others = cc in
      (next ∷ behind.0, whole ∙ ap (λ l. page ∷ l) behind.1, (is, behind.2))

  found_next : (within : Page → Option (List Page)) → Found within → (page : Page) (chain : List Page) (o : Option Page) → next_of pages page ≡ o
      → option_map (λ rest. page ∷ rest) (option_and_then within o) ≡ Some chain → (later : List Page) × (chain ≡ page ∷ later) × AreAfter pages page later
  found_next within found page chain None is e = absurd (cc)
  found_next within found page chain (Some next) is e = found_rest within found page next chain (within next) is refl e

  found_step : (within : Page → Option (List Page)) → Found within → (page : Page) (chain : List Page) (token : Option (List ℕ)) → page.token ≡ token
      → (if is_some token then option_map (λ rest. page ∷ rest) (option_and_then within (next_of pages page)) else Some (page ∷ [])) ≡ Some chain
      → (later : List Page) × (chain ≡ page ∷ later) × AreAfter pages page later
  found_step within found page chain None none e = let whole : chain ≡ page ∷ [] = cc in ([], whole, none)
  found_step within found page chain (Some token) some e = found_next within found page chain (next_of pages page) refl e

  found_within : (most : ℕ) → Found (chain_within most pages)
  found_within zero page chain e = absurd (cc)
  found_within (suc most) page chain e = found_step (chain_within most pages) (found_within most) page chain page.token refl e

  -- with a bound above it each chain is found
  reached : (later : List Page) (page : Page) (most : ℕ) → length later < most → AreAfter pages page later → chain_within most pages page ≡ Some (page ∷ later)
  reached [] page zero lt after = absurd (omega arith)
  reached [] page (suc most) lt after =
      ap (λ b. if b then option_map (λ rest. page ∷ rest) (option_and_then (chain_within most pages) (next_of pages page)) else Some (page ∷ [])) (ap is_some after)
  reached (next ∷ later) page zero lt after = absurd (omega arith)
  reached (next ∷ later) page (suc most) lt after =
      ap (λ b. if b then option_map (λ rest. page ∷ rest) (option_and_then (chain_within most pages) (next_of pages page)) else Some (page ∷ [])) (has_token pages page next page.token after.0)
      ∙ ap (λ o. option_map (λ rest. page ∷ rest) (option_and_then (chain_within most pages) o)) after.0
      ∙ ap (option_map (λ rest. page ∷ rest)) (reached later next most (omega arith) after.1)

  -- one page has one chain
  pub same_after : (a b : List Page) (page : Page) → AreAfter pages page a → AreAfter pages page b → a ≡ b
  same_after [] [] page h k = refl
  same_after [] (next ∷ b) page h k = let e : None ≡ Some next = sym (none_after page h) ∙ k.0 in absurd (cc)
  same_after (next ∷ a) [] page h k = let e : None ≡ Some next = sym (none_after page k) ∙ h.0 in absurd (cc)
  same_after (next ∷ a) (other ∷ b) page h k =
      let both : Some next ≡ Some other = sym h.0 ∙ k.0 in
      let one : next ≡ other = cc in
      let rest : a ≡ b = same_after a b next h.1 (subst (λ p. AreAfter pages p b) (sym one) k.1) in
      λ i. one i ∷ rest i

  -- a page that has fewer behind it is another
  other : (page x : Page) (a b : List Page) → AreAfter pages page a → AreAfter pages x b → length b < length a → page ≢ x
  other page x a b h k lt e =
      let same : a ≡ b = same_after a b x (subst (λ p. AreAfter pages p a) e h) k in
      let even : length a ≡ length b = ap length same in
      omega arith

  others : (page : Page) (a : List Page) → AreAfter pages page a → (later : List Page) (from : Page) → AreAfter pages from later → length later ≤ length a → Each (λ x. page ≢ x) later
  others page a h [] from k le = tt
  others page a h (next ∷ later) from k le = (other page next a later h k.1 (omega arith), others page a h later next k.1 (omega arith))

  apart : (later : List Page) (page : Page) → AreAfter pages page later → AreApart (page ∷ later)
  apart [] page h = (tt, tt)
  apart (next ∷ later) page h = (others page (next ∷ later) h (next ∷ later) page h (omega arith), apart later next h.1)

  pub each_after : (P : Page → Type 0) → Each P pages → (later : List Page) (page : Page) → AreAfter pages page later → Each P later
  each_after P each [] page h = tt
  each_after P each (next ∷ later) page h = ((followed P page next each h.0).0, each_after P each later next h.1)

  few_after : (later : List Page) (page : Page) → Among page pages → AreAfter pages page later → length later < length pages
  few_after later page among h =
      let few = few_apart (page ∷ later) pages (apart later page h) (among, each_after (λ x. Among x pages) (among_itself pages) later page h) in
      omega (arith, few)

  -- the search up to so many pages finds the chain, where there is one
  pub chain_is : (page : Page) → Among page pages → IsChainOf pages page (chain_of pages page)
  chain_is page among = by_start (begins page) refl
    where
      by_pages : begins page ≡ true → (o : Option (List Page)) → chain_within (length pages) pages page ≡ o → IsChainOf pages page (option_map (checkpoint_of page) o)
      by_pages starts None none = λ checkpoint chain.
          let some : chain_within (length pages) pages page ≡ Some (page ∷ chain.later) = reached chain.later page (length pages) (few_after chain.later page among chain.after) chain.after in
          absurd (cc)
      by_pages starts (Some chain) some =
          let found = found_within (length pages) page chain some in
          record { starts = starts; later = found.0; after = found.2; is = ap (checkpoint_of page) found.1 }

      by_start : (b : Bool) → begins page ≡ b → IsChainOf pages page (if b then option_map (checkpoint_of page) (chain_within (length pages) pages page) else None)
      by_start true e = by_pages e (chain_within (length pages) pages page) refl
      by_start false e = λ checkpoint chain. absurd (true≢false (sym chain.starts ∙ e))
