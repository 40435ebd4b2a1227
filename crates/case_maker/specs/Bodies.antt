-- The JSON bodies of a made case: objects as asked for and as stored, and the other answers.
use Rattle.std.specs.Prelude.{ℕ, List, [], ◌∷◌, ◌++◌, Option, codes, decimal}
use Rattle.std.specs.List.{concat, join_with_byte, filter_map, enumerate_from}
use Rattle.std.specs.Option.{option_map}
use Rattle.case_maker.specs.declared.exchange.Held.{Held}

-- the object of a name as a request has it: the event's number is its data
abbrev pub asked_text : ℕ → ℕ → List ℕ
asked_text name number = concat (
    codes "{\"kind\":\"ConfigMap\",\"apiVersion\":\"v1\",\"metadata\":{\"name\":\"c" ∷ decimal name
    ∷ codes "\",\"namespace\":\"d\"},\"data\":{\"k\":\"" ∷ decimal number ∷ codes "\"}}" ∷ [])

-- the object as the store has it
abbrev pub held_text : ℕ → Held → List ℕ
held_text name held = concat (
    codes "{\"kind\":\"ConfigMap\",\"apiVersion\":\"v1\",\"metadata\":{\"name\":\"c" ∷ decimal name
    ∷ codes "\",\"namespace\":\"d\",\"uid\":\"u" ∷ decimal held.created ∷ codes "\",\"resourceVersion\":\"" ∷ decimal held.revision
    ∷ codes "\"},\"data\":{\"k\":\"" ∷ decimal held.written ∷ codes "\"}}" ∷ [])

-- a deletion's answer
abbrev pub success_text : ℕ → Held → List ℕ
success_text name held = concat (
    codes "{\"kind\":\"Status\",\"apiVersion\":\"v1\",\"status\":\"Success\",\"details\":{\"name\":\"c" ∷ decimal name
    ∷ codes "\",\"kind\":\"configmaps\",\"uid\":\"u" ∷ decimal held.created ∷ codes "\"}}" ∷ [])

-- what a read of an absent object is answered
abbrev pub missing_text : ℕ → List ℕ
missing_text name = concat (
    codes "{\"kind\":\"Status\",\"apiVersion\":\"v1\",\"status\":\"Failure\",\"reason\":\"NotFound\",\"details\":{\"name\":\"c" ∷ decimal name
    ∷ codes "\",\"kind\":\"configmaps\"},\"code\":404}" ∷ [])

-- the objects that are there, by the numbers of their names
abbrev pub present_texts : List (Option Held) → List (List ℕ)
present_texts objects = filter_map (λ (name, object). option_map (held_text name) object) (enumerate_from 0 objects)

abbrev pub list_head : ℕ → List ℕ
list_head revision = concat (
    codes "{\"kind\":\"ConfigMapList\",\"apiVersion\":\"v1\",\"metadata\":{\"resourceVersion\":\"" ∷ decimal revision
    ∷ codes "\"},\"items\":[" ∷ [])

abbrev pub list_text : ℕ → List (Option Held) → List ℕ
list_text revision objects = list_head revision ++ join_with_byte 44 (present_texts objects) ++ codes "]}"
