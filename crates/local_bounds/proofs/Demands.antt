-- What a list asks of one key that isn't clouded.
use Rattle.std.proofs.Common.{◌≡◌, ℕ, ◌↔◌, Bool, true, false, not, Option, Some, None, inl, inr, refl, sym, ◌∙◌, true≢false}
use Rattle.std.specs.Prelude.{IsTrue}
use Rattle.base_types.specs.declared.kubernetes.key.ObjectKey.{ObjectKey}
use Rattle.history_model.specs.Bounding.{Shows, Lacks}
use Rattle.history_model.specs.Clouds.{IsClouded}
use Rattle.history_model.specs.Events.{Item}
use Rattle.history_model.specs.Histories.{History, Version}
use Rattle.history_model.specs.Right.{IsShown}
use Rattle.local_bounds.proofs.Tests.{not_true}
use Rattle.local_bounds.specs.Demands.{IsMet}

not_from : (b : Bool) → b ≡ false → not b ≡ true
not_from true e = absurd (true≢false e)
not_from false e = refl

module _ (h : History) (number place : ℕ) where
  pub lacks_none : (key : ObjectKey) → IsTrue true ↔ IsMet h number place (Lacks key) None
  lacks_none key = ((λ e. inr tt), λ m. refl)

  pub lacks_version : (key : ObjectKey) (v : Version) (listable : Bool) → (IsClouded h key place → ⊥) → listable ≡ h.listable number v.tree
      → IsTrue (not listable) ↔ IsMet h number place (Lacks key) (Some v)
  lacks_version key v listable clear is = ((λ e. inr (sym is ∙ not_true listable e)), back)
    where
      back : IsMet h number place (Lacks key) (Some v) → IsTrue (not listable)
      back (inl c) = absurd (clear c)
      back (inr u) = not_from listable (is ∙ u)

  pub shows_is : (item : Item) (found : Option Version) → (IsClouded h item.key place → ⊥) → h.listable number item.tree ≡ true → IsShown item found ↔ IsMet h number place (Shows item) found
  shows_is item found clear l = ((λ s. inr (s, l)), back)
    where
      back : IsMet h number place (Shows item) found → IsShown item found
      back (inl c) = absurd (clear c)
      back (inr s) = s.0

  pub not_shown : (item : Item) (found : Option Version) → (IsClouded h item.key place → ⊥) → h.listable number item.tree ≡ false → IsMet h number place (Shows item) found → ⊥
  not_shown item found clear l (inl c) = clear c
  not_shown item found clear l (inr s) = true≢false (sym s.1 ∙ l)
