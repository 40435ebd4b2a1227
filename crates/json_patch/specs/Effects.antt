-- What one operation makes of a document (RFC 6902 section 4), or why it can't be done.
use Rattle.std.specs.Prelude.{ℕ, List, [], ◌∷◌, length, Option, Some, None, option_map, option_and_then, unwrap_or, Result, Ok, Err, insert, remove, bytes_eq, codes, nat_le, if◌then◌else◌}
use Rattle.base_types.specs.Edits.{put}
use Rattle.base_types.specs.Meaning.{Meaning, null, flag, whole, words, items, members, kids_of, kids_list}
use Rattle.base_types.specs.Pointers.{index_of, child_of, pointed}
use Rattle.base_types.specs.Same.{same}
use Rattle.base_types.specs.Stored.{fields_without}
use Rattle.json_patch.specs.declared.fault.ApplyCause.{ApplyCause}
use Rattle.json_patch.specs.declared.fault.ApplyCause.TheVariants.{IntoItself, NoValue, NoParent, BadIndex, Differs}
use Rattle.json_patch.specs.declared.op.Op.{Op}
use Rattle.json_patch.specs.declared.op.Op.TheVariants.{Add, Remove, Replace, Move, Copy, Test}
use Rattle.json_patch.specs.Limits.{within_limits}
use Rattle.json_patch.specs.Targets.{parent_of, last_of, is_proper_prefix, with_child, put_at}

-- one step after another, up to the first that can't be done
abbrev pub and_then : Result Meaning ApplyCause → (Meaning → Result Meaning ApplyCause) → Result Meaning ApplyCause
and_then (Err cause) next = Err cause
and_then (Ok t) next = next t

-- what is made of a value where it is there
abbrev pub when_there : Option Meaning → (Meaning → Result Meaning ApplyCause) → Result Meaning ApplyCause
when_there None made = Err NoValue
when_there (Some v) made = made v

-- the document whose value at a pointer is changed, where it is there
abbrev pub changed_at : List (List ℕ) → ApplyCause → (Meaning → Result Meaning ApplyCause) → Meaning → Option Meaning → Result Meaning ApplyCause
changed_at at missing change t None = Err missing
changed_at at missing change t (Some v) = and_then (change v) (λ made. Ok (put_at at made t))

-- the document whose parent of a target location is changed under the last token
abbrev pub at_parent : List ℕ → List (List ℕ) → ApplyCause → (List ℕ → Meaning → Result Meaning ApplyCause) → Meaning → Result Meaning ApplyCause
at_parent first rest missing change t = changed_at (parent_of first rest) missing (change (last_of first rest)) t (pointed (parent_of first rest) t)

-- section 4.1: `-` is the place behind the last item, an index at most the number of items is the place before that item
abbrev pub place_of : List ℕ → ℕ → Option ℕ
place_of token count = if bytes_eq token (codes "-") then Some count else option_and_then (λ n. if nat_le n count then Some n else None) (index_of token)

-- an object's member is added or takes another value, an array's item is inserted
abbrev pub added_in : Meaning → List ℕ → Meaning → Result Meaning ApplyCause
added_in v token null = Err NoParent
added_in v token (flag b) = Err NoParent
added_in v token (whole z) = Err NoParent
added_in v token (words s) = Err NoParent
added_in v token (items ts) = unwrap_or (option_map (λ n. Ok (items (kids_of (insert (kids_list ts) n v)))) (place_of token (length (kids_list ts)))) (Err BadIndex)
added_in v token (members ms) = Ok (members (put token v ms))

abbrev pub added : List (List ℕ) → Meaning → Meaning → Result Meaning ApplyCause
added [] v t = Ok v
added (first ∷ rest) v t = at_parent first rest NoParent (added_in v) t

-- section 4.2
abbrev pub without_child : List ℕ → Meaning → Meaning
without_child token null = null
without_child token (flag b) = flag b
without_child token (whole z) = whole z
without_child token (words s) = words s
without_child token (items ts) = unwrap_or (option_map (λ n. items (kids_of (remove (kids_list ts) n))) (index_of token)) (items ts)
without_child token (members ms) = members (fields_without token ms)

abbrev pub removed_in : List ℕ → Meaning → Result Meaning ApplyCause
removed_in token parent = when_there (child_of token parent) (λ old. Ok (without_child token parent))

abbrev pub removed : List (List ℕ) → Meaning → Result Meaning ApplyCause
removed [] t = Err NoParent
removed (first ∷ rest) t = at_parent first rest NoValue removed_in t

-- section 4.3
abbrev pub replaced_in : Meaning → List ℕ → Meaning → Result Meaning ApplyCause
replaced_in v token parent = when_there (child_of token parent) (λ old. Ok (with_child token v parent))

abbrev pub replaced : List (List ℕ) → Meaning → Meaning → Result Meaning ApplyCause
replaced [] v t = Ok v
replaced (first ∷ rest) v t = at_parent first rest NoValue (replaced_in v) t

-- section 4.4: a remove at `from`, and then an add of what was there; the root, which only the root can take, stays
abbrev pub taken : List (List ℕ) → Meaning → Result Meaning ApplyCause
taken [] t = Ok t
taken (first ∷ rest) t = removed (first ∷ rest) t

abbrev pub moved : List (List ℕ) → List (List ℕ) → Meaning → Result Meaning ApplyCause
moved from path t =
    if is_proper_prefix from path then Err IntoItself
    else when_there (pointed from t) (λ v. and_then (taken from t) (added path v))

-- section 4.5
abbrev pub copied : List (List ℕ) → List (List ℕ) → Meaning → Result Meaning ApplyCause
copied from path t = when_there (pointed from t) (λ v. added path v t)

-- section 4.6
abbrev pub tested : List (List ℕ) → Meaning → Meaning → Result Meaning ApplyCause
tested path v t = when_there (pointed path t) (λ there. if same there v then Ok t else Err Differs)

-- the operations, one by one
abbrev pub effect : Op → Meaning → Result Meaning ApplyCause
effect (Add path v) t = added path v t
effect (Remove path) t = removed path t
effect (Replace path v) t = replaced path v t
effect (Move from path) t = moved from path t
effect (Copy from path) t = copied from path t
effect (Test path v) t = tested path v t

abbrev pub done : Op → Meaning → Result Meaning ApplyCause
done op t = and_then (effect op t) within_limits
