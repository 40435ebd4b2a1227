-- The words spell one command at most.
use Rattle.std.proofs.Common.{◌≡◌, ◌≢◌, ℕ, ◌+◌, ◌*◌, ◌∷◌, [], List, Option, Some, None, length, refl, sym, ◌∙◌, ap, subst, codes, decimal, arith}
use Rattle.std.proofs.lemmas.Fmt.{decimal_injective}
use Rattle.std.proofs.lemmas.Option.{same_Some}
use Rattle.base_types.specs.declared.kubernetes.key.ObjectKey.{ObjectKey}
use Rattle.base_types.specs.declared.kubernetes.request.RequestAttrs.{RequestAttrs}
use Rattle.base_types.specs.declared.kubernetes.request.User.{User}
use Rattle.base_types.proofs.KeyLemmas.{key_spelling_injective}
use Rattle.history_query.specs.declared.question.Question.{Question}
use Rattle.history_query.specs.declared.question.Question.TheVariants.{Show, Versions, State, Blame, Can}
use Rattle.base_types.specs.Pointers.{pointer_of}
use Rattle.request_attrs.specs.Attributes.{attributes}
use Rattle.command_words.specs.Asking.{AreCanWords, IsKeyWord, IsPlaceWord, SpellsQuestion, groups_of, verb_of}
use Rattle.command_words.specs.Command.{Ask, Asked, IsAsked, Judge, Make, Spells, Strict, Verify}

-- a number for a verb: its first byte and how many it has
abbrev mark : List ℕ → ℕ
mark [] = 0
mark (byte ∷ bytes) = byte + 1000 * length (byte ∷ bytes)

abbrev first_mark : List (List ℕ) → ℕ
first_mark [] = 0
first_mark (word ∷ words) = mark word

-- the mark of a command's verb, and how many words it has
abbrev mark_of : Asked → ℕ
mark_of (Judge setup log) = 5106
mark_of (Strict setup log) = 5106
mark_of (Verify setup log placement) = 6118
mark_of (Ask setup log question) = mark (verb_of question)
mark_of (Make number events) = 4109

begins : (words : List (List ℕ)) (asked : Asked) → Spells asked words → first_mark words ≡ mark_of asked
begins words (Judge setup log) spelled = ap first_mark spelled.0
begins words (Strict setup log) spelled = ap first_mark spelled.0
begins words (Verify setup log placement) spelled = ap first_mark spelled.0
begins words (Ask setup log question) spelled = ap first_mark spelled.1
begins words (Make number events) spelled = ap first_mark spelled.0

same_mark : (words : List (List ℕ)) (a b : Asked) → Spells a words → Spells b words → mark_of a ≡ mark_of b
same_mark words a b x y = sym (begins words a x) ∙ begins words b y

-- a question's verb is that of no other command
unlike : (question : Question) → (mark (verb_of question) ≢ 5106) × (mark (verb_of question) ≢ 6118) × (mark (verb_of question) ≢ 4109)
unlike (Show key place) = (λ is. omega (arith, is), λ is. omega (arith, is), λ is. omega (arith, is))
unlike (Versions key) = (λ is. omega (arith, is), λ is. omega (arith, is), λ is. omega (arith, is))
unlike (State place) = (λ is. omega (arith, is), λ is. omega (arith, is), λ is. omega (arith, is))
unlike (Blame key pointer place) = (λ is. omega (arith, is), λ is. omega (arith, is), λ is. omega (arith, is))
unlike (Can place who attrs) = (λ is. omega (arith, is), λ is. omega (arith, is), λ is. omega (arith, is))

same_judge : (words : List (List ℕ)) (setup log setup' log' : List ℕ) → Spells (Judge setup log) words → Spells (Judge setup' log') words → Judge setup log ≡ Judge setup' log'
same_judge words setup log setup' log' a b =
    let same : codes "judge" ∷ setup ∷ log ∷ [] ≡ codes "judge" ∷ setup' ∷ log' ∷ [] = sym a.0 ∙ b.0 in
    let setups : setup ≡ setup' = cc in
    let logs : log ≡ log' = cc in
    λ i. Judge (setups i) (logs i)

same_strict : (words : List (List ℕ)) (setup log setup' log' : List ℕ) → Spells (Strict setup log) words → Spells (Strict setup' log') words → Strict setup log ≡ Strict setup' log'
same_strict words setup log setup' log' a b =
    let same : codes "judge" ∷ codes "--strict" ∷ setup ∷ log ∷ [] ≡ codes "judge" ∷ codes "--strict" ∷ setup' ∷ log' ∷ [] = sym a.0 ∙ b.0 in
    let setups : setup ≡ setup' = cc in
    let logs : log ≡ log' = cc in
    λ i. Strict (setups i) (logs i)

same_verify : (words : List (List ℕ)) (setup log placement setup' log' placement' : List ℕ) → Spells (Verify setup log placement) words → Spells (Verify setup' log' placement') words
    → Verify setup log placement ≡ Verify setup' log' placement'
same_verify words setup log placement setup' log' placement' a b =
    let same : codes "verify" ∷ setup ∷ log ∷ placement ∷ [] ≡ codes "verify" ∷ setup' ∷ log' ∷ placement' ∷ [] = sym a.0 ∙ b.0 in
    let setups : setup ≡ setup' = cc in
    let logs : log ≡ log' = cc in
    let placements : placement ≡ placement' = cc in
    λ i. Verify (setups i) (logs i) (placements i)

same_make : (words : List (List ℕ)) (number events number' events' : ℕ) → Spells (Make number events) words → Spells (Make number' events') words → Make number events ≡ Make number' events'
same_make words number events number' events' a b =
    let same : codes "make" ∷ decimal number ∷ decimal events ∷ [] ≡ codes "make" ∷ decimal number' ∷ decimal events' ∷ [] = sym a.0 ∙ b.0 in
    let few = a.2 in
    let few' = b.2 in
    let numbers : number ≡ number' = decimal_injective number number' a.1 b.1 cc in
    let counts : events ≡ events' = decimal_injective events events' (omega (arith, few)) (omega (arith, few')) cc in
    λ i. Make (numbers i) (counts i)

-- a word tells one key, and one place
one_key : (word word' : List ℕ) (key key' : ObjectKey) → word ≡ word' → IsKeyWord word key → IsKeyWord word' key' → key ≡ key'
one_key word word' key key' same of of' = key_spelling_injective key key' (sym of.spelled ∙ same ∙ of'.spelled)

one_place : (word word' : List ℕ) (place place' : ℕ) → word ≡ word' → IsPlaceWord word place → IsPlaceWord word' place' → place ≡ place'
one_place word word' place place' same at at' = decimal_injective place place' at.number at'.number (sym at.spelled ∙ same ∙ at'.spelled)

same_show : (rest : List (List ℕ)) (key key' : ObjectKey) (place place' : ℕ) → SpellsQuestion (Show key place) rest → SpellsQuestion (Show key' place') rest → Show key place ≡ Show key' place'
same_show rest key key' place place' (k, p, is, of, at) (k', p', is', of', at') =
    let same : k ∷ p ∷ [] ≡ k' ∷ p' ∷ [] = sym is ∙ is' in
    let keys : key ≡ key' = one_key k k' key key' (cc) of of' in
    let places : place ≡ place' = one_place p p' place place' (cc) at at' in
    λ i. Show (keys i) (places i)

same_versions : (rest : List (List ℕ)) (key key' : ObjectKey) → SpellsQuestion (Versions key) rest → SpellsQuestion (Versions key') rest → Versions key ≡ Versions key'
same_versions rest key key' (k, is, of) (k', is', of') =
    let same : k ∷ [] ≡ k' ∷ [] = sym is ∙ is' in
    ap Versions (one_key k k' key key' (cc) of of')

same_state : (rest : List (List ℕ)) (place place' : ℕ) → SpellsQuestion (State place) rest → SpellsQuestion (State place') rest → State place ≡ State place'
same_state rest place place' (p, is, at) (p', is', at') =
    let same : p ∷ [] ≡ p' ∷ [] = sym is ∙ is' in
    ap State (one_place p p' place place' (cc) at at')

same_blame : (rest : List (List ℕ)) (key key' : ObjectKey) (pointer pointer' : List (List ℕ)) (place place' : ℕ) → SpellsQuestion (Blame key pointer place) rest → SpellsQuestion (Blame key' pointer' place') rest
    → Blame key pointer place ≡ Blame key' pointer' place'
same_blame rest key key' pointer pointer' place place' (k, t, p, is, of, to, at) (k', t', p', is', of', to', at') =
    let same : k ∷ t ∷ p ∷ [] ≡ k' ∷ t' ∷ p' ∷ [] = sym is ∙ is' in
    let keys : key ≡ key' = one_key k k' key key' (cc) of of' in
    let texts : t ≡ t' = cc in
    let pointers : pointer ≡ pointer' = same_Some pointer pointer' (sym to ∙ ap pointer_of texts ∙ to') in
    let places : place ≡ place' = one_place p p' place place' (cc) at at' in
    λ i. Blame (keys i) (pointers i) (places i)

same_can : (rest : List (List ℕ)) (place place' : ℕ) (who who' : User) (attrs attrs' : RequestAttrs) → AreCanWords place who attrs rest → AreCanWords place' who' attrs' rest → Can place who attrs ≡ Can place' who' attrs'
same_can rest place place' who who' attrs attrs' a b =
    let same : a.place_word ∷ who.name ∷ a.groups_word ∷ a.verb ∷ a.uri ∷ [] ≡ b.place_word ∷ who'.name ∷ b.groups_word ∷ b.verb ∷ b.uri ∷ [] = sym a.words_are ∙ b.words_are in
    let places : place ≡ place' = one_place a.place_word b.place_word place place' (cc) a.at_place b.at_place in
    let names : who.name ≡ who'.name = cc in
    let words : a.groups_word ≡ b.groups_word = cc in
    let groups : who.groups ≡ who'.groups = a.groups ∙ ap groups_of words ∙ sym b.groups in
    let whos : who ≡ who' = λ i. record { name = names i; groups = groups i } in
    let verbs : a.verb ≡ b.verb = cc in
    let uris : a.uri ≡ b.uri = cc in
    let requests : attributes a.verb a.uri ≡ attributes b.verb b.uri = λ i. attributes (verbs i) (uris i) in
    let asked : attrs ≡ attrs' = a.asked ∙ requests ∙ sym b.asked in
    λ i. Can (places i) (whos i) (asked i)

-- the verb and the words behind the names tell one question
one_question : (rest : List (List ℕ)) (a b : Question) → mark (verb_of a) ≡ mark (verb_of b) → SpellsQuestion a rest → SpellsQuestion b rest → a ≡ b
one_question rest (Show key place) (Show key' place') same x y = same_show rest key key' place place' x y
one_question rest (Show key place) (Versions key') same x y = absurd (omega (arith, same))
one_question rest (Show key place) (State place') same x y = absurd (omega (arith, same))
one_question rest (Show key place) (Blame key' pointer' place') same x y = absurd (omega (arith, same))
one_question rest (Show key place) (Can place' who' attrs') same x y = absurd (omega (arith, same))
one_question rest (Versions key) (Show key' place') same x y = absurd (omega (arith, same))
one_question rest (Versions key) (Versions key') same x y = same_versions rest key key' x y
one_question rest (Versions key) (State place') same x y = absurd (omega (arith, same))
one_question rest (Versions key) (Blame key' pointer' place') same x y = absurd (omega (arith, same))
one_question rest (Versions key) (Can place' who' attrs') same x y = absurd (omega (arith, same))
one_question rest (State place) (Show key' place') same x y = absurd (omega (arith, same))
one_question rest (State place) (Versions key') same x y = absurd (omega (arith, same))
one_question rest (State place) (State place') same x y = same_state rest place place' x y
one_question rest (State place) (Blame key' pointer' place') same x y = absurd (omega (arith, same))
one_question rest (State place) (Can place' who' attrs') same x y = absurd (omega (arith, same))
one_question rest (Blame key pointer place) (Show key' place') same x y = absurd (omega (arith, same))
one_question rest (Blame key pointer place) (Versions key') same x y = absurd (omega (arith, same))
one_question rest (Blame key pointer place) (State place') same x y = absurd (omega (arith, same))
one_question rest (Blame key pointer place) (Blame key' pointer' place') same x y = same_blame rest key key' pointer pointer' place place' x y
one_question rest (Blame key pointer place) (Can place' who' attrs') same x y = absurd (omega (arith, same))
one_question rest (Can place who attrs) (Show key' place') same x y = absurd (omega (arith, same))
one_question rest (Can place who attrs) (Versions key') same x y = absurd (omega (arith, same))
one_question rest (Can place who attrs) (State place') same x y = absurd (omega (arith, same))
one_question rest (Can place who attrs) (Blame key' pointer' place') same x y = absurd (omega (arith, same))
one_question rest (Can place who attrs) (Can place' who' attrs') same x y = same_can rest place place' who who' attrs attrs' x y

same_ask : (words : List (List ℕ)) (setup log setup' log' : List ℕ) (question question' : Question) → Spells (Ask setup log question) words → Spells (Ask setup' log' question') words → Ask setup log question ≡ Ask setup' log' question'
same_ask words setup log setup' log' question question' (rest, is, names, spelled) (rest', is', names', spelled') =
    let same : verb_of question ∷ setup ∷ log ∷ rest ≡ verb_of question' ∷ setup' ∷ log' ∷ rest' = sym is ∙ is' in
    let setups : setup ≡ setup' = cc in
    let logs : log ≡ log' = cc in
    let rests : rest ≡ rest' = cc in
    let verbs : verb_of question ≡ verb_of question' = cc in
    let questions : question ≡ question' = one_question rest' question question' (ap mark verbs) (subst (SpellsQuestion question) rests spelled) spelled' in
    λ i. Ask (setups i) (logs i) (questions i)

-- the words spell one command
pub one_command : (words : List (List ℕ)) (a b : Asked) → Spells a words → Spells b words → a ≡ b
one_command words (Judge setup log) (Judge setup' log') x y = same_judge words setup log setup' log' x y
one_command words (Judge setup log) (Strict setup' log') x y = absurd (let no = sym (ap length x.0) ∙ ap length y.0 in omega (arith, no))
one_command words (Judge setup log) (Verify setup' log' placement') x y = absurd (let no = same_mark words (Judge setup log) (Verify setup' log' placement') x y in omega (arith, no))
one_command words (Judge setup log) (Ask setup' log' question') x y = absurd ((unlike question').0 (sym (same_mark words (Judge setup log) (Ask setup' log' question') x y)))
one_command words (Judge setup log) (Make number' events') x y = absurd (let no = same_mark words (Judge setup log) (Make number' events') x y in omega (arith, no))
one_command words (Strict setup log) (Judge setup' log') x y = absurd (let no = sym (ap length x.0) ∙ ap length y.0 in omega (arith, no))
one_command words (Strict setup log) (Strict setup' log') x y = same_strict words setup log setup' log' x y
one_command words (Strict setup log) (Verify setup' log' placement') x y = absurd (let no = same_mark words (Strict setup log) (Verify setup' log' placement') x y in omega (arith, no))
one_command words (Strict setup log) (Ask setup' log' question') x y = absurd ((unlike question').0 (sym (same_mark words (Strict setup log) (Ask setup' log' question') x y)))
one_command words (Strict setup log) (Make number' events') x y = absurd (let no = same_mark words (Strict setup log) (Make number' events') x y in omega (arith, no))
one_command words (Verify setup log placement) (Judge setup' log') x y = absurd (let no = same_mark words (Verify setup log placement) (Judge setup' log') x y in omega (arith, no))
one_command words (Verify setup log placement) (Strict setup' log') x y = absurd (let no = same_mark words (Verify setup log placement) (Strict setup' log') x y in omega (arith, no))
one_command words (Verify setup log placement) (Verify setup' log' placement') x y = same_verify words setup log placement setup' log' placement' x y
one_command words (Verify setup log placement) (Ask setup' log' question') x y = absurd ((unlike question').1 (sym (same_mark words (Verify setup log placement) (Ask setup' log' question') x y)))
one_command words (Verify setup log placement) (Make number' events') x y = absurd (let no = same_mark words (Verify setup log placement) (Make number' events') x y in omega (arith, no))
one_command words (Ask setup log question) (Judge setup' log') x y = absurd ((unlike question).0 (same_mark words (Ask setup log question) (Judge setup' log') x y))
one_command words (Ask setup log question) (Strict setup' log') x y = absurd ((unlike question).0 (same_mark words (Ask setup log question) (Strict setup' log') x y))
one_command words (Ask setup log question) (Verify setup' log' placement') x y = absurd ((unlike question).1 (same_mark words (Ask setup log question) (Verify setup' log' placement') x y))
one_command words (Ask setup log question) (Ask setup' log' question') x y = same_ask words setup log setup' log' question question' x y
one_command words (Ask setup log question) (Make number' events') x y = absurd ((unlike question).2 (same_mark words (Ask setup log question) (Make number' events') x y))
one_command words (Make number events) (Judge setup' log') x y = absurd (let no = same_mark words (Make number events) (Judge setup' log') x y in omega (arith, no))
one_command words (Make number events) (Strict setup' log') x y = absurd (let no = same_mark words (Make number events) (Strict setup' log') x y in omega (arith, no))
one_command words (Make number events) (Verify setup' log' placement') x y = absurd (let no = same_mark words (Make number events) (Verify setup' log' placement') x y in omega (arith, no))
one_command words (Make number events) (Ask setup' log' question') x y = absurd ((unlike question').2 (sym (same_mark words (Make number events) (Ask setup' log' question') x y)))
one_command words (Make number events) (Make number' events') x y = same_make words number events number' events' x y

pub one_asked : (words : List (List ℕ)) (a b : Option Asked) → IsAsked words a → IsAsked words b → a ≡ b
one_asked words None None x y = refl
one_asked words None (Some b) x y = absurd (x b y)
one_asked words (Some a) None x y = absurd (y a x)
one_asked words (Some a) (Some b) x y = ap Some (one_command words a b x y)
