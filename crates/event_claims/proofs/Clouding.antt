-- Clouds from one place to another.
use Rattle.std.proofs.Common.{◌≡◌, ℕ, Bool, Option, Some, None, sym, ◌∙◌, true≢false}
use Rattle.std.specs.Prelude.{◌↔◌, IsTrue, IfSome, IfNone, is_some}
use Rattle.base_types.specs.declared.kubernetes.key.ObjectKey.{ObjectKey}
use Rattle.clouds.specs.Clouds as cloud
use Rattle.clouds.specs.FirstPlace.{IsLeastPlace, HoldsNowhere}
use Rattle.clouds.specs.Writes.{Writes}
use Rattle.history_model.specs.Clouds.{IsCloudedWithin}
use Rattle.history_model.specs.Histories.{History}
use Rattle.local_bounds.specs.Known.{HasClouds}

pub clouded_within : (writes : Writes) (key : ObjectKey) (low high : ℕ) (o : Option ℕ) (b : Bool)
    → IfSome o (IsLeastPlace (cloud.IsClouded writes key) low high) → IfNone o (HoldsNowhere (cloud.IsClouded writes key) low high) → b ≡ is_some o
    → (h : History) → HasClouds writes h → IsTrue b ↔ IsCloudedWithin h key low high
clouded_within writes key low high None b some none e h k = (λ t. absurd (true≢false (sym t ∙ e)), λ w. absurd (none w.0 w.1 w.2 ((k key w.0).1 w.3)))
clouded_within writes key low high (Some place) b some none e h k = (λ t. (place, some.from_low, some.upto_high, (k key place).0 some.here), λ w. e)
