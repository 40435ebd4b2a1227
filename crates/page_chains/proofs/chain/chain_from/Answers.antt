use Rattle.std.proofs.Common.{◌≡◌, ◌≢◌, ◌+◌, ◌-◌, ◌<◌, ◌++◌, ℕ, true, false, Bor, List, [], ◌∷◌, length, map, Option, Some, None, refl, sym, ap, subst, ◌∙◌, arith, rules}
use Rattle.std.specs.Prelude.{is_some, is_none, option_map, option_and_then, slice_get, slice_index}
use Rattle.std.proofs.lemmas.List.{map-append}
use Rattle.page_chains.specs.declared.page.Page.{Page}
use Rattle.page_chains.specs.Chains.{chain_within}
use Rattle.page_chains.proofs.WalkLemmas.{ends, circles, goes_on}
use Rattle.page_chains.proofs.chain.chain_from.Goals as goal

no_token : (o : Option (List ℕ)) → is_none o ≡ true → is_some o ≡ false
no_token None e = refl
no_token (Some token) e = sym e

a_token : (o : Option (List ℕ)) → is_none o ≡ false → is_some o ≡ true
a_token None e = sym e
a_token (Some token) e = refl

behind : (chain later : List (Bor Page)) (page : Bor Page) → later ≡ chain ++ page ∷ [] → map (λ (p : Bor Page). p.now) later ≡ map (λ (p : Bor Page). p.now) chain ++ page.now ∷ []
behind chain later page e = ap (map (λ (p : Bor Page). p.now)) e ∙ map-append (λ (p : Bor Page). p.now) chain (page ∷ [])

pub returns-then-is_none : goal.returns-then-is_none
returns-then-is_none c =
    let page = c.index-pages-here.result in
    let stops : is_some page.token ≡ false = no_token page.token (search rules) in
    let made = behind c.loop-step.chain.items c.push.new.self.items _ c.in_ok-push.ensures.items in
    ap Some made ∙ sym (ends c.args.pages.now c.args.links.now c.requires.links _ (map (λ (p : Bor Page). p.now) c.loop-step.chain.items) c.loop-step._step c.loop-step.here page
    c.loop-step-test.true c.loop-step.invariant.within c.index-pages-here.is c.loop-step.invariant.left stops)

pub returns-then-links-here : goal.returns-then-links-here
returns-then-links-here c =
    let page = c.index-pages-here.result in
    let goes : is_some page.token ≡ true = a_token page.token (search rules) in
    let back : slice_index c.args.links.now c.loop-step.here ≡ c.loop-step.here = search rules in
    sym (circles c.args.pages.now c.args.links.now c.requires.links _ (map (λ (p : Bor Page). p.now) c.loop-step.chain.items) c.loop-step._step c.loop-step.here page
    c.loop-step-test.true c.loop-step.invariant.within c.index-pages-here.is c.loop-step.invariant.left goes back)

pub loop-step-preserved : goal.loop-step-preserved
loop-step-preserved c =
    let pages = c.args.pages.now in
    let links = c.args.links.now in
    let here = c.loop-step.here in
    let page = c.index-pages-here.result in
    let goes : is_some page.token ≡ true = a_token page.token (search rules) in
    let apart : slice_index links here ≢ here = c.if-links-here.false in
    let made = behind c.loop-step.chain.items c.push.new.self.items _ c.in_ok-push.ensures.items in
    let on = goes_on pages links c.requires.links _ (map (λ (p : Bor Page). p.now) c.loop-step.chain.items) c.loop-step._step here page
    c.loop-step-test.true c.loop-step.invariant.within c.index-pages-here.is c.loop-step.invariant.left goes apart in
    let each = c.requires.links.each in
    let inside = c.loop-step.invariant.within in
    let lt : here < length links = omega arith in
    record {
      within = c.requires.links.within here 0 lt;
      left = subst (λ (done : List Page). option_and_then (chain_within (length pages) pages) (slice_get pages c.args.first)
          ≡ option_map (λ rest. done ++ rest) (option_and_then (chain_within (length pages - (c.loop-step._step + 1)) pages) (slice_get pages (slice_index links here)))) (sym made) on;
    }
