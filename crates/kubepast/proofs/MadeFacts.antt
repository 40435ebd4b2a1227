-- A desk of two files tells the bytes of each.
use Rattle.std.proofs.Common.{◌≡◌, ℕ, List, [], ◌∷◌, codes, refl}
use Rattle.edge_io.specs.Files.{left_of}
use Rattle.edge_io.specs.MemoryDesk.{SteadyState, new_steady}
use Rattle.edge_io.specs.declared.files.InputFile.{InputFile}

pub bytes_named : (files : List InputFile) (cut : ℕ) (desk : SteadyState) (setup log : List ℕ)
    → files ≡ record { name = codes "setup"; bytes = setup } ∷ record { name = codes "log"; bytes = log } ∷ [] → desk ≡ new_steady files cut
    → (left_of desk.files (codes "setup") ≡ setup) × (left_of desk.files (codes "log") ≡ log)
bytes_named files cut desk setup log listed opened = rw (opened, listed) (refl, refl)
