-- Where the spans are found again that no key names.
use Rattle.std.specs.Prelude.{◌≡◌, ◌≤◌, ℕ, ⊤, ◌⊎◌, List, [], Option, Some, None, length, take, Any, Contains}
use Rattle.std.specs.BTreeMap.{BTreeMap, get_by}
use Rattle.std.specs.Cmp.Lexicographic.{slice_cmp}
use Rattle.std.specs.Option.{option_map}
use Rattle.std.specs.Ordering.{nat_cmp}
use Rattle.std.specs.declared.cmp.Ordering.{Ordering}
use Rattle.std.specs.declared.vec.Vec.{Vec}
use Rattle.base_types.specs.Covers.{Covers}
use Rattle.base_types.specs.declared.kubernetes.key.CoverName.{CoverName}
use Rattle.base_types.specs.declared.kubernetes.key.CoverName.TheVariants.{Exact, Prefix, Any as AnyName}
use Rattle.base_types.specs.declared.kubernetes.key.ObjectKey.{ObjectKey}
use Rattle.clouds.specs.contracts.wide.FolderOrd.TheImpl as folder_ord
use Rattle.clouds.specs.contracts.wide.ScopeOrd.TheImpl as scope_ord
use Rattle.clouds.specs.declared.span.OpaqueSpan.{OpaqueSpan}
use Rattle.clouds.specs.declared.wide.Folder.{Folder}
use Rattle.clouds.specs.declared.wide.Scope.{Scope}
use Rattle.clouds.specs.declared.wide.Wide.{Wide}
use Rattle.clouds.specs.Items.{items_at}

-- the text's number
abbrev pub number_of : {A : Type 0} → BTreeMap (Vec ℕ A) ℕ → List ℕ → Option ℕ
number_of numbers text = get_by (λ k. slice_cmp nat_cmp text k.items) numbers

-- each number is kept
abbrev pub Extends : {A : Type 0} → BTreeMap (Vec ℕ A) ℕ → BTreeMap (Vec ℕ A) ℕ → Type 0
Extends old new = (text : List ℕ) (number : ℕ) → number_of old text ≡ Some number → number_of new text ≡ Some number

abbrev pub IsNumbered : {A : Type 0} → BTreeMap (Vec ℕ A) ℕ → Option (List ℕ) → Option ℕ → Type 0
IsNumbered numbers None None = ⊤
IsNumbered numbers None (Some number) = ⊥
IsNumbered numbers (Some text) None = ⊥
IsNumbered numbers (Some text) (Some number) = number_of numbers text ≡ Some number

-- what each name begins with that is taken
abbrev pub front_of : CoverName → List ℕ
front_of (Exact name) = name
front_of (Prefix front) = front
front_of AnyName = []

abbrev pub scope_order : Scope → Scope → Ordering
scope_order = (scope_ord.ghosts).cmp

abbrev pub folder_order : Folder → Folder → Ordering
folder_order = (folder_ord.ghosts).cmp

-- the numbers, if there is each
abbrev pub scope_from : Option ℕ → Option ℕ → Option (Option ℕ) → Option Scope
scope_from None resource namespace = None
scope_from (Some group) None namespace = None
scope_from (Some group) (Some resource) None = None
scope_from (Some group) (Some resource) (Some namespace) = Some (record { group = group; resource = resource; namespace = namespace })

-- what the covers take that name the key's namespace
abbrev pub own_scope : {A : Type 0} → BTreeMap (Vec ℕ A) ℕ → ObjectKey → Option Scope
own_scope numbers key = scope_from (number_of numbers key.group) (number_of numbers key.resource) (option_map Some (number_of numbers key.namespace))

-- and what those take that name none
abbrev pub any_scope : {A : Type 0} → BTreeMap (Vec ℕ A) ℕ → ObjectKey → Option Scope
any_scope numbers key = scope_from (number_of numbers key.group) (number_of numbers key.resource) (Some None)

abbrev pub spans_at : Wide → Scope → Option ℕ → List OpaqueSpan
spans_at wide scope None = []
spans_at wide scope (Some front) = items_at folder_order wide.spans (record { scope = scope; front = front })

abbrev pub spans_of_front : Wide → Scope → List ℕ → List OpaqueSpan
spans_of_front wide scope front = spans_at wide scope (number_of wide.numbers front)

-- those whose front is so many bytes of the key's name
abbrev pub spans_by : Wide → Scope → ObjectKey → ℕ → List OpaqueSpan
spans_by wide scope key count = spans_of_front wide scope (take count key.name)

-- of some span whose front is the key's name up to one of these counts
abbrev pub AnyOf : Wide → Scope → ObjectKey → List ℕ → (OpaqueSpan → Type 0) → Type 0
AnyOf wide scope key counts P = Any (λ count. Any P (spans_by wide scope key count)) counts

abbrev pub lengths_of : Wide → Scope → List ℕ
lengths_of wide scope = items_at scope_order wide.lengths scope

-- of some span whose front is as long as one of the scope and begins the key's name
abbrev pub AnyIn : Wide → ObjectKey → Option Scope → (OpaqueSpan → Type 0) → Type 0
AnyIn wide key None P = ⊥
AnyIn wide key (Some scope) P = Any (λ count. (count ≤ length key.name) × Any P (spans_by wide scope key count)) (lengths_of wide scope)

-- of some span that a look-up of the key finds
abbrev pub AnyWide : Wide → ObjectKey → (OpaqueSpan → Type 0) → Type 0
AnyWide wide key P = AnyIn wide key (own_scope wide.numbers key) P ⊎ AnyIn wide key (any_scope wide.numbers key) P

-- one span more, which each key finds that it covers
pub record AddsWide (old new : Wide) (span : OpaqueSpan) : Type 0 where
  pub kept : (key : ObjectKey) (other : OpaqueSpan) → AnyWide old key (λ s. s ≡ other) → AnyWide new key (λ s. s ≡ other)
  pub added : (key : ObjectKey) → Covers span.cover key → AnyWide new key (λ s. s ≡ span)
  pub only : (folder : Folder) (other : OpaqueSpan) → Contains (items_at folder_order new.spans folder) other
      → Contains (items_at folder_order old.spans folder) other ⊎ (other ≡ span)
