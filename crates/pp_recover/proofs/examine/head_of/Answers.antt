use Rattle.std.proofs.Common.{arith}
use Rattle.std.specs.Prelude.{Ok}
use Rattle.pp_entry.specs.Entries.{shown_entry}
use Rattle.pp_recover.proofs.LookLemmas.{read_look, short_head, whole_head}
use Rattle.pp_recover.proofs.examine.head_of.Goals as goal

pub returns-then-branch-lt-HEAD_LEN-clause-head : goal.returns-then-branch-lt-HEAD_LEN-clause-head
returns-then-branch-lt-HEAD_LEN-clause-head g c =
    short_head shown_entry _ _ c.args.name.now c.read.new.buf c.in_ok-read.field-0 (omega (arith, c.read.auto.buf, c.told-block))
    (read_look _ _ c.args.name.now 0 c.read.new.buf (Ok c.in_ok-read.field-0) c.in_ok-read.ensures.told c.in_ok-read.ensures.bytes)
    c.if-branch-lt-HEAD_LEN.true

pub returns-clause-head : goal.returns-clause-head
returns-clause-head g c =
    whole_head shown_entry _ _ c.args.name.now c.read.new.buf c.in_ok-read.field-0 (omega (arith, c.read.auto.buf, c.told-block))
    (read_look _ _ c.args.name.now 0 c.read.new.buf (Ok c.in_ok-read.field-0) c.in_ok-read.ensures.told c.in_ok-read.ensures.bytes)
    c.head_in.result c.if-branch-lt-HEAD_LEN.false c.head_in.ensures.row
