use Rattle.std.proofs.Common.{◌≡◌, ◌∙◌, sym, ℕ, Some, le_trans}
use Rattle.pp_desk.specs.declared.desk.Desk.{Desk}
use Rattle.pp_objects.specs.declared.objects.RowView.{RowView}
use Rattle.pp_shelf.proofs.SteadyLemmas.{steady_then_quiet}
use Rattle.pp_store.specs.Kept.{row_of}
use Rattle.pp_store.specs.Loads.{chunk_len}
use Rattle.pp_talk.specs.Loading.{chunk_at, chunk_notes}
use Rattle.pp_talk.proofs.LoadingLemmas.{cause_then, chunk_there, load_counted, load_told, shelf_so}
use Rattle.pp_talk.proofs.kept.load.Goals as goal

pub returns-clause-steady : goal.returns-clause-steady
returns-clause-steady g c = steady_then_quiet c.load_chunk-answer.ensures.steady c.note_chunk.ensures.quiet

pub returns-clause-is : goal.returns-clause-is
returns-clause-is g c =
    let old : Desk = c.args.desk.now in
    let row : RowView = c.in-Some.row in
    let key = row.key.now in
    let version = row.version.now in
    let index : ℕ = c.in-Some-chunk_at.index in
    let log = g.W.Logged.log in
    let faults = g.W.Logged.faults in
    let answer = c.load_chunk-answer.result in
    let call = c.load_chunk-answer.ensures in
    let note = c.note_chunk.ensures in
    let len = chunk_len (row_of key c.args.shelf.now).entry.version.length index in
    let at : chunk_at c.args.next.at ≡ Some index = sym c.chunk_at.ensures ∙ c.in-Some-chunk_at.is in
    let cause = cause_then (faults c.args.world.now) (faults c.load_chunk-answer.new.world) (faults c.note_chunk.new.world) len answer (chunk_notes answer key version index) note.told note.faults call.cause in
    chunk_there c.args.next index row c.args.shelf.now c.load_chunk-answer.new.shelf old.state c.take_chunk.new.state (log c.args.world.now) (log c.note_chunk.new.world) (faults c.args.world.now) (faults c.note_chunk.new.world) c.in-Some.ensures.none c.in-Some.ensures.shows at
    (record {
      answer = answer;
      out = c.load_chunk-answer.new.out;
      answered = call.answered;
      bytes = call.bytes;
      told = load_told answer key version index call.still call.told note.told;
      cause = cause;
      counted = load_counted len answer key version index cause (le_trans call.faults note.faults);
      map = shelf_so answer key c.args.shelf.now c.load_chunk-answer.new.shelf call.none call.map;
      is = c.take_chunk.ensures;
    })
