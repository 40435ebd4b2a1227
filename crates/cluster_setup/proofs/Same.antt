-- Bytes are the text of one tree at most, and what a setup's text is read as tells of its tree.
use Rattle.std.proofs.Common.{◌≡◌, ℕ, inl, inr, List, Some, Result, Ok, Err, IfOk, String, Global, string_bytes, sym, ap, subst, ◌∙◌}
use Rattle.serde_json.specs.Data.{Data}
use Rattle.serde_json.specs.Read.{read}
use Rattle.base_types.specs.Meaning.{Meaning}
use Rattle.base_types.specs.Values.{of_data}
use Rattle.setup_file.specs.declared.fault.SetupFault.{SetupFault}
use Rattle.setup_file.specs.declared.fault.SetupRule.{SetupRule}
use Rattle.setup_file.specs.Reading.{IsTreeOf, ReadsAs, setup_of}
use Rattle.base_types.proofs.Found.{same_some}
use Rattle.cluster_setup.specs.Answers.{json_line, IsAccepted, IsTextOf, Breaks}

same_data : (bytes : List ℕ) (d e : Data) → read bytes ≡ Some d → read bytes ≡ Some e → d ≡ e
same_data bytes d e p q = same_some d e (sym p ∙ q)

same_of : (d e : Data) (t u : Meaning) → d ≡ e → of_data d ≡ Some t → of_data e ≡ Some u → t ≡ u
same_of d e t u same p q = same_some t u (sym p ∙ ap of_data same ∙ q)

pub same_tree : (bytes : List ℕ) (t u : Meaning) → IsTreeOf bytes t → IsTreeOf bytes u → t ≡ u
same_tree bytes t u p q = same_of p.1.0 q.1.0 t u (same_data bytes p.1.0 q.1.0 p.1.1 q.1.1) p.1.2 q.1.2

pub broken_from : (bytes : List ℕ) (tree : Meaning) (rule : SetupRule) → bytes ≡ json_line tree → IsTreeOf bytes tree → ReadsAs bytes (Err rule) → Breaks tree rule
broken_from bytes tree rule line own (inl found) = inl (subst (λ b. IsTreeOf b tree) line own, ap setup_of (same_tree bytes tree found.0 own found.1) ∙ found.2)
broken_from bytes tree rule line own (inr none) = absurd (none.0 tree own)

pub reads_as : (tree : Meaning) → (accepted : IsAccepted tree) → ReadsAs (json_line tree) (Ok accepted.setup)
reads_as tree accepted = inl (tree, accepted.read, accepted.is)

-- the line of a tree that is accepted is that of what the tree is
pub shown_text : (result : Result (String Global) SetupFault) (tree made : Meaning) → tree ≡ made → IfOk result (λ text. string_bytes text ≡ json_line tree)
    → IfOk result (λ text. IsAccepted tree) → IfOk result (λ text. IsTextOf made (string_bytes text))
shown_text (Ok text) tree made same is accepted = record { is = is ∙ ap json_line same; accepted = subst IsAccepted same accepted }
shown_text (Err fault) tree made same is accepted = tt
