-- The words among the arguments of a call.
use Rattle.std.specs.Prelude.{◌≡◌, ◌≢◌, Option, Some, None, Result, Ok, Err, String, Vec, drop}
use Rattle.std.specs.Global.{Global}
use Rattle.std.specs.IoError.{error_kind}
use Rattle.std.specs.Vec.Iter.{into_iter_items}
use Rattle.std.specs.declared.io.Error.{Error}
use Rattle.std.specs.declared.io.ErrorKind.TheVariants as kind
use Rattle.std.specs.declared.vec.IntoIter.{IntoIter}
use Rattle.base_types.specs.declared.foundation.memory.OutOfMemory.{OutOfMemory}

-- the words behind the first argument, which is the program's name; none where the arguments can't be read, unless for want of memory
abbrev pub ComesTo : Result (IntoIter (String Global) Global) Error → Result (Option (Vec (String Global) Global)) OutOfMemory → Type 0
ComesTo (Ok given) (Ok (Some words)) = words.items ≡ drop 1 (into_iter_items given)
ComesTo (Ok given) (Ok None) = ⊥
ComesTo (Ok given) (Err memory) = Unit {0}
ComesTo (Err error) (Ok (Some words)) = ⊥
ComesTo (Err error) (Ok None) = error_kind error ≢ kind.OutOfMemory
ComesTo (Err error) (Err memory) = error_kind error ≡ kind.OutOfMemory
