-- Equality of keys.
use Rattle.std.proofs.Common.{◌≡◌, ◌==◌, Bool, true, refl}
use Rattle.std.specs.Prelude.{bytes_eq}
use Rattle.std.proofs.lemmas.Bool.{and_parts, eqb-true}
use Rattle.std.proofs.lemmas.Slice.Eq.{bytes_eq-Decides}
use Rattle.page_chains.specs.declared.page.PageKey.{PageKey}
use Rattle.page_chains.specs.contracts.page.PageKeyPartialEq.TheImpl as by_parts
use Rattle.page_chains.specs.Chains.{same_page_key}

-- the one that the code computes
abbrev pub same : PageKey → PageKey → Bool
same = (by_parts.ghosts).eq

pub same_is : (a b : PageKey) → same a b ≡ same_page_key a b
same_is a b = refl

pub same_means : (a b : PageKey) → same_page_key a b ≡ true → a ≡ b
same_means a b e =
    let one = and_parts (bytes_eq a.group b.group) _ e in
    let two = and_parts (bytes_eq a.resource b.resource) _ one.1 in
    let three = and_parts (bytes_eq a.namespace b.namespace) _ two.1 in
    let four = and_parts (a.revision == b.revision) _ three.1 in
    let group = (bytes_eq-Decides a.group b.group).0 one.0 in
    let resource = (bytes_eq-Decides a.resource b.resource).0 two.0 in
    let namespace = (bytes_eq-Decides a.namespace b.namespace).0 three.0 in
    let revision = eqb-true a.revision b.revision four.0 in
    let token = (bytes_eq-Decides a.token b.token).0 four.1 in
    λ i. record { group = group i; resource = resource i; namespace = namespace i; revision = revision i; token = token i }
