-- The line of a made event: its request and its answer.
use Rattle.std.specs.Prelude.{ℕ, ◌+◌, ◌/◌, ◌%◌, List, [], ◌∷◌, ◌++◌, Option, Some, None, codes, decimal}
use Rattle.std.specs.List.{concat}
use Rattle.case_maker.specs.declared.exchange.Held.{Held}
use Rattle.case_maker.specs.declared.exchange.Exchange.{Exchange}
use Rattle.case_maker.specs.declared.exchange.Exchange.TheVariants.{Create, Miss, Update, Get, Delete, List as ListAll}
use Rattle.case_maker.specs.Bodies.{asked_text, held_text, success_text, missing_text, list_text}

abbrev pub collection : List ℕ
collection = codes "/api/v1/namespaces/d/configmaps"

abbrev pub object_path : ℕ → List ℕ
object_path name = collection ++ codes "/c" ++ decimal name

-- a request with a body has this member
abbrev pub asked_member : List ℕ → List ℕ
asked_member body = codes ",\"requestObject\":" ++ body

-- what the line of an event says of its request and its answer
pub record Wording : Type 0 where
  pub verb : List ℕ
  pub uri : List ℕ
  pub code : ℕ
  pub asked : List ℕ
  pub answered : List ℕ

abbrev pub wording_of : Exchange → ℕ → ℕ → ℕ → List (Option Held) → Wording
wording_of (Create held) name number revision objects =
    record { verb = codes "create"; uri = collection; code = 201; asked = asked_member (asked_text name number); answered = held_text name held }
wording_of Miss name number revision objects =
    record { verb = codes "get"; uri = object_path name; code = 404; asked = []; answered = missing_text name }
wording_of (Update held) name number revision objects =
    record { verb = codes "update"; uri = object_path name; code = 200; asked = asked_member (asked_text name number); answered = held_text name held }
wording_of (Get held) name number revision objects =
    record { verb = codes "get"; uri = object_path name; code = 200; asked = []; answered = held_text name held }
wording_of (Delete held) name number revision objects =
    record { verb = codes "delete"; uri = object_path name; code = 200; asked = []; answered = success_text name held }
wording_of (ListAll held) name number revision objects =
    record { verb = codes "list"; uri = collection; code = 200; asked = []; answered = list_text revision objects }

-- the last digit of a number
abbrev pub digit : ℕ → ℕ
digit number = 48 + number % 10

abbrev pub two_digits : ℕ → List ℕ
two_digits number = digit (number / 10) ∷ digit number ∷ []

abbrev pub three_digits : ℕ → List ℕ
three_digits number = digit (number / 100) ∷ digit (number / 10) ∷ digit number ∷ []

-- so many milliseconds after 10:00:00, below an hour: minutes, seconds and microseconds
abbrev pub time_text : ℕ → List ℕ
time_text millis =
    codes "2024-05-01T10:" ++ two_digits (millis / 60000) ++ codes ":" ++ two_digits (millis / 1000 % 60)
    ++ codes "." ++ three_digits (millis % 1000) ++ codes "000Z"

-- the path of one object, or of all
abbrev pub path_text : Option ℕ → List ℕ
path_text None = collection
path_text (Some name) = object_path name

-- behind the URI, to the code
abbrev pub verb_text : List ℕ → ℕ → List ℕ
verb_text verb code = concat (
    codes "\",\"verb\":\"" ∷ verb ∷ codes "\",\"user\":{\"username\":\"u\"},\"responseStatus\":{\"metadata\":{},\"code\":" ∷ decimal code ∷ codes "}" ∷ [])

-- from the URI to the answer
abbrev pub wording_text : Wording → List ℕ
wording_text wording =
    wording.uri ++ verb_text wording.verb wording.code ++ wording.asked ++ codes ",\"responseObject\":" ++ wording.answered

abbrev pub head_text : ℕ → List ℕ
head_text number = concat (
    codes "{\"kind\":\"Event\",\"apiVersion\":\"audit.k8s.io/v1\",\"level\":\"RequestResponse\",\"auditID\":\"a" ∷ decimal number
    ∷ codes "\",\"stage\":\"ResponseComplete\",\"requestURI\":\"" ∷ [])

-- it completes 3 milliseconds after its receipt
abbrev pub times_text : ℕ → List ℕ
times_text number =
    codes ",\"requestReceivedTimestamp\":\"" ++ time_text number ++ codes "\",\"stageTimestamp\":\"" ++ time_text (number + 3) ++ codes "\"}\n"

-- the line of an event, with its newline
abbrev pub event_text : ℕ → Wording → List ℕ
event_text number wording = head_text number ++ wording_text wording ++ times_text number
