-- How a resource is judged, put member by member.
use Rattle.std.proofs.Common.{◌≡◌, ℕ, Bool, List, ap, ◌∙◌, codes}
use Rattle.base_types.specs.Edits.{put}
use Rattle.base_types.specs.Meaning.{Meaning, flag, items, Fields, kids_of}
use Rattle.cluster_setup.specs.Making.{say}
use Rattle.cluster_setup.specs.Parts.{with_rules}

pub rules_put : (fields first second third : Fields) (given namespaced : Bool) (marked shown shapes list : Meaning) (said patch : List ℕ) (all subresources : List Meaning)
    → given ≡ namespaced → marked ≡ flag given → first ≡ put (codes "namespaced") marked fields
    → said ≡ patch → second ≡ say (codes "objectPatch") said first
    → shown ≡ shapes → third ≡ put (codes "shapes") shown second
    → all ≡ subresources → list ≡ items (kids_of all)
    → put (codes "subresources") list third ≡ with_rules namespaced patch shapes subresources fields
rules_put fields first second third given namespaced marked shown shapes list said patch all subresources same_flag is_flag is_first same_patch is_second same_shapes is_third same_list is_list =
    let one : first ≡ put (codes "namespaced") (flag namespaced) fields = is_first ∙ ap (λ t. put (codes "namespaced") t fields) (is_flag ∙ ap flag same_flag) in
    let two : second ≡ say (codes "objectPatch") patch (put (codes "namespaced") (flag namespaced) fields) = is_second ∙ ap (λ t. say (codes "objectPatch") t first) same_patch ∙ ap (say (codes "objectPatch") patch) one in
    ap (λ t. put (codes "subresources") t third) (is_list ∙ ap (λ l. items (kids_of l)) same_list)
    ∙ ap (put (codes "subresources") (items (kids_of subresources))) (is_third ∙ ap (λ t. put (codes "shapes") t second) same_shapes ∙ ap (put (codes "shapes") shapes) two)
