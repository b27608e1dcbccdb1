-- `Inlet::next_whole`: the first newline ends the line; without one there is no whole line.
use Rattle.std.proofs.Common.{◌≡◌, ℕ, ◌+◌, List, None, Some, Bool, ◌∙◌, sym, ap, subst, arith}
use Rattle.std.proofs.Common.{drop, length, take, false, refl}
use Rattle.td_ledger.specs.Lines.{IsLine}
use Rattle.td_lasting.specs.Framing.{Frames}
use Rattle.td_lasting.specs.inner.Inlets.{FramesAs, InletView, IsInlet}
use Rattle.td_lasting.proofs.InletSearch.{all_sought, newline_at, no_newline, seen_all, told_split}
use Rattle.td_lasting.proofs.framing.Inlet.next_whole.Goals as goal
use Rattle.td_lasting.proofs.framing.Inlet.next_whole.Goals.{then-self, else-self+in_ok-framed}

pub invariant_of-self : goal.invariant_of-self
invariant_of-self c =
    let i = c.self.inside in
    let rest = c.split_at.ensures.back ∙ ap (drop i.told) c.as_slice.ensures.value in
    let none = seen_all i.bytes.items c.as_slice.result.now c.split_at.result.1.now
    c.split_at-2.result.1.now i.told i.sought None c.as_slice.ensures.value
    c.split_at.ensures.back c.split_at-2.ensures.back c.in_default.ensures in
    let line = no_newline i.bytes.items i.told i.sought c.self.invariant none in
    let within = c.self.invariant.within in
    subst (λ (l : List ℕ). IsInlet i.bytes.items i.told (length l)) (sym rest)
    (all_sought i.bytes.items i.told (omega arith) line)

pub returns-in_default : goal.returns-in_default
returns-in_default c =
    let i = c.self.inside in
    let none = seen_all i.bytes.items c.as_slice.result.now c.split_at.result.1.now
    c.split_at-2.result.1.now i.told i.sought None c.as_slice.ensures.value
    c.split_at.ensures.back c.split_at-2.ensures.back c.in_default.ensures in
    let line = no_newline i.bytes.items i.told i.sought c.self.invariant none in
    record {
      told = (
        c.self.view_is,
        subst IsLine (ap (λ (v : InletView). v.ahead) c.self.view_is) line,
      );
    }

pub returns : goal.returns
returns c =
    let i = c.self.inside in
    let first = seen_all i.bytes.items c.as_slice.result.now c.split_at.result.1.now
    c.split_at-2.result.1.now i.told i.sought (Some c.in-Some.place) c.as_slice.ensures.value
    c.split_at.ensures.back c.split_at-2.ensures.back c.in-Some.ensures in
    let split = newline_at i.bytes.items i.told i.sought c.in-Some.place c.self.invariant first in
    let rest = c.split_at.ensures.back ∙ ap (drop i.told) c.as_slice.ensures.value in
    let ahead = sym (ap (λ (v : InletView). v.ahead) c.self.view_is) in
    let long = ap (λ (v : InletView). v.long) c.self.view_is in
    let len = i.sought + c.in-Some.place in
    let line = c.split_at-3.result.0.now in
    let is : line ≡ take len (drop i.told i.bytes.items) =
    c.split_at-3.ensures.front ∙ ap (take len) rest in
    let joined = c.if-self.self-inside in
    let new : InletView = record {
      ahead = drop (joined.told + (len + 1)) joined.bytes.items;
      long = false;
    } in
    record {
      told = elim c.if-self.branch [
        | then-self w ↦
            told_split c.args.self.now new i.bytes.items i.told len line c.if-self.framed split
            ahead (ap (λ v. drop (v.told + (len + 1)) v.bytes.items) w.self-inside-is) refl is
            (subst (λ (b : Bool). FramesAs b line c.if-self.framed)
            (sym (sym long ∙ w.if-self.true))
            w.framed-is)
        | else-self+in_ok-framed w ↦
            told_split c.args.self.now new i.bytes.items i.told len line c.if-self.framed split
            ahead (ap (λ v. drop (v.told + (len + 1)) v.bytes.items) w.self-inside-is) refl is
            (subst (λ (b : Bool). FramesAs b line c.if-self.framed)
            (sym (sym long ∙ w.if-self.false))
            (subst (Frames line) (sym w.framed-is) w.in_ok-framed.ensures))
      ];
    }
