use Rattle.std.proofs.Common.{◌≡◌, ◌∷◌, [], ◌++◌, List, Option, Some, None, length, drop, refl, sym, ap, ◌∙◌, append_assoc, append-nil, arith}
use Rattle.std.specs.Vec.Iter.{into_iter_items, into_iter_len, into_iter_steps}
use Rattle.std.specs.declared.vec.IntoIter.{IntoIter}
use Rattle.process_words.proofs.words.words_behind.Goals as goal

nothing_left : {X : Type 0} (items : List X) → length items ≡ 0 → items ≡ []
nothing_left [] none = refl
nothing_left (x ∷ xs) none = absurd (omega (arith, none))

module _ {X Z : Type 0} where
  -- one step leaves what stands behind the first item
  stepped : (old : IntoIter X Z) (given : Option X) (new : IntoIter X Z) → into_iter_steps old given new → into_iter_items new ≡ drop 1 (into_iter_items old)
  stepped old None new none = nothing_left (into_iter_items new) (sym new.rest.ok.0 ∙ none.1) ∙ sym (ap (drop 1) (nothing_left (into_iter_items old) (sym old.rest.ok.0 ∙ none.0)))
  stepped old (Some x) new first = sym (ap (drop 1) first.0)

  begun : (words : List X) (old : IntoIter X Z) (given : Option X) (new rest : IntoIter X Z) → words ≡ [] → into_iter_steps old given new → rest ≡ new → words ++ into_iter_items rest ≡ drop 1 (into_iter_items old)
  begun words old given new rest none step same = ap (λ w. w ++ into_iter_items rest) none ∙ ap (λ r. into_iter_items r) same ∙ stepped old given new step

  ended : (words all : List X) (rest : IntoIter X Z) → words ++ into_iter_items rest ≡ all → into_iter_len rest ≡ 0 → words ≡ all
  ended words all rest both none = sym (append-nil words) ∙ ap (λ r. words ++ r) (sym (nothing_left (into_iter_items rest) (sym rest.rest.ok.0 ∙ none))) ∙ both

moved : {X : Type 0} (words more : List X) (word : X) (rest left all : List X) → more ≡ words ++ word ∷ [] → rest ≡ word ∷ left → words ++ rest ≡ all → more ++ left ≡ all
moved words more word rest left all pushed took both = ap (λ m. m ++ left) pushed ∙ append_assoc words (word ∷ []) left ∙ sym (ap (λ r. words ++ r) took) ∙ both

pub loop-word-init : goal.loop-word-init
loop-word-init c = begun c.new-words.result.items c.args.given c.next-name.result c.next-name.new.self c.into_iter-word-iterator.result c.new-words.ensures.items c.next-name.ensures.cases c.into_iter-word-iterator.ensures.into_iter_gives

pub loop-word-preserved : goal.loop-word-preserved
loop-word-preserved c = moved c.loop-word.words.items c.push.new.self.items c.in-Some.word (into_iter_items c.loop-word.word-iterator) (into_iter_items c.next.new.self) (drop 1 (into_iter_items c.args.given)) c.in_ok-push.ensures.items c.in-Some.ensures.steps.0 c.loop-word.invariant

pub returns : goal.returns
returns c = ended c.loop-word.words.items (drop 1 (into_iter_items c.args.given)) c.loop-word.word-iterator c.loop-word.invariant c.in-None.ensures.steps.0
