-- The texts of keys, one after another.
use Rattle.std.proofs.Common.{◌≡◌, ℕ, ◌+◌, ◌<◌, List, [], ◌∷◌, ◌++◌, length, get_or, take, append-nil, refl, sym, ap, ◌∙◌, subst}
use Rattle.std.proofs.lemmas.List.{flat_map_more, take_more}
use Rattle.std.proofs.lemmas.Slice.Zip.{all_zipped_more}
use Rattle.std.specs.List.{AllZip, flat_map}
use Rattle.base_types.specs.declared.kubernetes.key.ObjectKey.{ObjectKey}
use Rattle.log_context.specs.Keyed.{AreKeys}
use Rattle.log_context.specs.Known.{Known}
use Rattle.history_query.specs.Appending.{Appends}
use Rattle.history_query.specs.Sights.{IsSight}
use Rattle.history_query.specs.States.{IsKeyText, IsStateOf, key_text}
use Rattle.history_query.specs.declared.sight.ObjectSight.{ObjectSight}

-- the texts of these keys are put behind what was there
pub record AreTexts (known : Known) (place : ℕ) (keys : List ObjectKey) (old new : List ℕ) : Type 0 where
  pub texts : List (List ℕ)
  pub each : AllZip (IsKeyText known place) keys texts
  pub joined : new ≡ old ++ flat_map (λ one. one) texts

-- of no keys
pub texts_none : (known : Known) (place : ℕ) (old : List ℕ) → AreTexts known place [] old old
texts_none known place old = record { texts = []; each = tt; joined = sym (append-nil old) }

-- of one key more
pub texts_more : (known : Known) (place : ℕ) (keys : List ObjectKey) (n : ℕ) (key : ObjectKey) (old now new : List ℕ) → n < length keys → key ≡ get_or keys n key
    → AreTexts known place (take n keys) old now → Appends (IsKeyText known place key) now new → AreTexts known place (take (n + 1) keys) old new
texts_more known place keys n key old now new within is h a = record {
  texts = h.texts ++ a.told ∷ [];
  each = subst (λ l. AllZip (IsKeyText known place) l (h.texts ++ a.told ∷ [])) (sym (take_more keys n key within ∙ ap (λ k. take n keys ++ k ∷ []) (sym is)))
      (all_zipped_more (IsKeyText known place) (take n keys) h.texts key a.told h.each a.is);
  joined = a.behind ∙ ap (λ l. l ++ a.told) h.joined ∙ flat_map_more (λ one. one) old h.texts a.told;
}

-- of all keys
pub texts_whole : (known : Known) (place : ℕ) (keys : List ObjectKey) (old new : List ℕ) → AreKeys known.versions known.log keys → AreTexts known place keys old new
    → Appends (IsStateOf known place) old new
texts_whole known place keys old new are h = record {
  told = flat_map (λ one. one) h.texts;
  is = record { keys = keys; are_keys = are; texts = h.texts; each = h.each; joined = refl };
  behind = h.joined;
}

-- of one key
pub key_told : (known : Known) (place : ℕ) (key : ObjectKey) (sight : ObjectSight) (old new : List ℕ) → IsSight known key place sight → new ≡ old ++ key_text key sight
    → Appends (IsKeyText known place key) old new
key_told known place key sight old new is behind = record { told = key_text key sight; is = (sight, is, refl); behind = behind }
