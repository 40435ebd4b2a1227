-- Values are equal exactly where their bytes are.
use Rattle.std.proofs.Common.{◌≡◌, ℕ, List, ap, sym, ◌∙◌}
use Rattle.std.specs.Prelude.{bytes_eq}
use Rattle.std.proofs.lemmas.Bool.Decides.{Decides-like, same_from_decides}
use Rattle.std.proofs.lemmas.Slice.Eq.{bytes_eq-Decides}
use Rattle.base_types.specs.Same.{same, same-Decides}
use Rattle.packed_tree.specs.Encoding.{encode}
use Rattle.packed_tree.specs.Decoding.{decode}
use Rattle.packed_tree.specs.Sound.{IsPacked}

pub same_bytes : (a b : List ℕ) → IsPacked a → IsPacked b → bytes_eq a b ≡ same (decode a) (decode b)
same_bytes a b p q =
    let back : decode a ≡ decode b → a ≡ b = λ e. sym p.canonical ∙ ap encode e ∙ q.canonical in
    same_from_decides (bytes_eq a b) (same (decode a) (decode b)) (Decides-like _ (λ e. ap decode e) back (bytes_eq-Decides a b)) (same-Decides (decode a) (decode b))
