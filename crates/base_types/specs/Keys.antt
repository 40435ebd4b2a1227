-- The key of an object and its one spelling, GROUP/RESOURCE/NAMESPACE/NAME.
use Rattle.std.specs.Prelude.{◌≡◌, ◌≢◌, ℕ, Bool, ◌&&◌, List, [], ◌∷◌, ◌++◌, map, All, IsUtf8, bytes_eq}
use Rattle.std.specs.List.{join_with_byte}
use Rattle.base_types.specs.declared.kubernetes.key.ObjectKey.{ObjectKey}
use Rattle.base_types.specs.Escapes.{escaped}

-- Two keys name one object where their four texts are equal (Kubernetes API concepts, "Resource URIs").
abbrev pub same_key : ObjectKey → ObjectKey → Bool
same_key a b = bytes_eq a.group b.group && (bytes_eq a.resource b.resource && (bytes_eq a.namespace b.namespace && bytes_eq a.name b.name))

-- GROUP/RESOURCE/NAMESPACE/NAME, each part escaped; an empty part is written as nothing
abbrev pub key_spelling : ObjectKey → List ℕ
key_spelling key = join_with_byte 47 (map escaped (key.group ∷ key.resource ∷ key.namespace ∷ key.name ∷ []))

-- no byte is `/`
abbrev pub HasNoSlash : List ℕ → Type 0
HasNoSlash word = All (λ b. b ≢ 47) word

-- the word is cut at its first `/`
pub record IsCut (word front rest : List ℕ) : Type 0 where
  pub joined : word ≡ front ++ (47 ∷ rest)
  pub whole : HasNoSlash front

-- the word is these four joined by `/`, of which the first three have none
pub record IsJoined (word first second third last : List ℕ) : Type 0 where
  pub joined : word ≡ join_with_byte 47 (first ∷ second ∷ third ∷ last ∷ [])
  pub first_whole : HasNoSlash first
  pub second_whole : HasNoSlash second
  pub third_whole : HasNoSlash third

-- the two words write these two texts
pub record AreWritten (first second one two : List ℕ) : Type 0 where
  pub first_text : IsUtf8 one
  pub second_text : IsUtf8 two
  pub first_written : first ≡ escaped one
  pub second_written : second ≡ escaped two

-- the key of an object: its parts are texts, and it has a resource and a name
pub record IsNamed (key : ObjectKey) : Type 0 where
  pub group : IsUtf8 key.group
  pub resource : IsUtf8 key.resource
  pub namespace : IsUtf8 key.namespace
  pub name : IsUtf8 key.name
  pub has_resource : key.resource ≢ []
  pub has_name : key.name ≢ []

-- no other key has this text
abbrev pub SpellsAlone : List ℕ → ObjectKey → Type 0
SpellsAlone text key = (other : ObjectKey) → text ≡ key_spelling other → other ≡ key
