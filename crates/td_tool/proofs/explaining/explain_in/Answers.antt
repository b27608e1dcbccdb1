-- `explain_in`: the line of a relation that can't be read.
use Rattle.std.proofs.Common.{◌≡◌, ◌∙◌, List, Option, Some, string_bytes, subst, sym, ℕ}
use Rattle.td_explain.specs.Explanation.{ExplainsRelation}
use Rattle.td_indices.specs.Fields.{relation_field_name}
use Rattle.td_indices.specs.declared.archive_fault.RelationField.{RelationField}
use Rattle.td_inputs.specs.Faults.{label_of}
use Rattle.td_inputs.specs.declared.role.Role.{Role}
use Rattle.td_tool.specs.declared.input_fault.InputFault.{InputFault}
use Rattle.td_tool.specs.Explained.{IsFaultLine, IsLineWith}
use Rattle.td_tool.specs.Places.{relation_of}
use Rattle.td_tool.specs.Wanted.{wanted_input}
use Rattle.td_tool.proofs.explaining.explain_in.Goals as goal

-- a line that explains the relation which a fault names is that of the fault
explains-fault : (role : Role) (fault : InputFault) (text : List ℕ) (number : ℕ)
    (field : RelationField) (found : Option (ℕ × RelationField)) (label name wanted line : List ℕ)
    → found ≡ Some (number, field) → found ≡ relation_of fault → label ≡ label_of role
    → name ≡ relation_field_name field → wanted ≡ wanted_input fault text
    → ExplainsRelation label number name wanted text line → IsFaultLine role fault text line
explains-fault role fault text number field found label name wanted line some is labelled named
    asked
    explains =
    subst (λ (o : Option (ℕ × RelationField)). IsLineWith o role fault text line) (sym some ∙ is)
    (subst (λ (w : List ℕ). ExplainsRelation (label_of role) number (relation_field_name field) w
    text line) asked
    (subst (λ (n : List ℕ). ExplainsRelation (label_of role) number n wanted text line) named
    (subst (λ (l : List ℕ). ExplainsRelation l number name wanted text line) labelled explains)))

pub returns-in-Ok : goal.returns-in-Ok
returns-in-Ok c =
    explains-fault c.args.role c.args.fault c.args.text.now c.in-Some.number c.in-Some.field
    c.relation_of.result c.label.result.now c.name.result.now c.wanted-wanted.result.now
    (string_bytes c.in-Ok.line) c.in-Some.is c.relation_of.ensures c.label.ensures c.name.ensures
    c.wanted-wanted.ensures c.in-Ok.ensures
