-- What a proof unfolds to compute the law on a log that is written out.
use Rattle.std.specs.Prelude.{⊤}
use Rattle.std.specs.Fmt.{digits}
use Rattle.clap.proofs.OnLiterals.{clap_on_literals}
use Rattle.httpdate.proofs.OnLiterals.{httpdate_on_literals}
use Rattle.pp_entry.specs.Entries.{row_at}
use Rattle.pp_entry.specs.Texts.{body_at, own_lines, head_text}
use Rattle.pp_gate.specs.Files.{whole_file}
use Rattle.pp_head.proofs.OnLiterals.{pp_head_on_literals}
use Rattle.pp_target.proofs.OnLiterals.{pp_target_on_literals}
use Rattle.pp_world.specs.Disk.{loosened, splice, written, settled, unsynced, view_of}
use Rattle.pp_law.specs.Requests.{front_of}
use Rattle.pp_law.specs.Connections.{on_conn, on_exchange, on_client, on_client_of, give_up_row, charge, lose_attempt, fail, end_exchange, leave_place, lose_place, each_client, each_conn, each_exchange, close_conn, put_on}
use Rattle.pp_law.specs.Chunks.{use_chunk, drop_chunk, note_use}
use Rattle.pp_law.specs.Table.{on_instance, forget, swept, clear, mark_row, forget_row, with_room, add_row, make_row, enter}
use Rattle.pp_law.specs.Passing.{pour}
use Rattle.pp_law.specs.OwnHeads.{tell, use_body, drop_answer, useless, renew, settle_on, renew_row, settle_known, settle, not_shared, settle_unchanged, unchanged, not_modified, cleared_by, relay_head, other_head, other_part, own_head, count_elsewhere, part_head, filling_head, note_own, note_sent, join, join_bound}
use Rattle.pp_law.specs.ThroughHeads.{clear_named, clear_each, invalidated, disproved, through_head}
use Rattle.pp_law.specs.Repairs.{begin_in_opening}
use Rattle.pp_law.specs.Responses.{skip_body, close_this, finish, bad_response, bad_head, by_aim, end_if_empty, begin_answer, answer_for, bring_row, head_came, deliver, got, finish_first, ended}
use Rattle.pp_law.specs.Unseen.{drop_on, drop_unseen}
use Rattle.pp_law.specs.Closing.{forsake, leave, leave_one, close_client}
use Rattle.pp_law.specs.Deciding.{refuse, add_exchange, begin_exchange, ask_for, ask_as, ask_origin, follow_with, follow_row, follow, relay, mark_row_of, enter_row, decided_by, decided}
use Rattle.pp_law.specs.Replies.{begin_replies, use_chunks, use_from, use_said, end_reply, end_said, close_finished, end_replies, regained}
use Rattle.pp_law.specs.Followers.{fill_with, fill_span, fill_next, fill_for, fill, give_up_asks}
use Rattle.pp_law.specs.Asking.{hear, ask_body, ask_next, ask, hang_up}
use Rattle.pp_law.specs.Store.{remove_entry, note_gone, begin_op, begin_in_turn, enter_next, close_name, lose_draft, fail_op, end_op, lose_entry, note_kept, load_from, load}
use Rattle.pp_law.specs.Opening.{with_settings, begun, woken, stuck, opened_to, configured, lose_in_opening}
use Rattle.pp_law.specs.Phases.{next, come, come_to, come_to_decide, deciding, ending}
use Rattle.pp_law.specs.Turn.{touch, marks_anew, end_patience, close_idle_conn, renew_marks, tick_to, tick, rest_with}
use Rattle.pp_law.specs.After.{event, opened, owing, reached, paid, said, gone, take_decision, evicted, refused_row, leave_memory, forgotten_by, noted, begun_op, ended_op, unread, shut, dialled, refused_dial, undialled, out, dropped, changed}
use Rattle.pp_law.specs.Permits.{permits, is_permitted}
use Rattle.pp_law.specs.Lawful.{rule_of}

unfoldable pub pp_law_on_literals : ⊤
unfolding clap_on_literals httpdate_on_literals pp_head_on_literals pp_target_on_literals digits
    row_at body_at own_lines head_text whole_file loosened splice written settled unsynced view_of
    front_of
    on_conn on_exchange on_client on_client_of give_up_row charge lose_attempt fail end_exchange leave_place lose_place each_client each_conn each_exchange close_conn put_on
    use_chunk drop_chunk note_use
    on_instance forget swept clear mark_row forget_row with_room add_row make_row enter
    pour
    tell use_body drop_answer useless renew settle_on renew_row settle_known settle not_shared settle_unchanged unchanged not_modified cleared_by relay_head other_head other_part own_head count_elsewhere part_head filling_head clear_named clear_each invalidated disproved through_head note_own note_sent join join_bound
    skip_body close_this finish bad_response bad_head by_aim end_if_empty begin_answer answer_for bring_row head_came deliver got finish_first ended
    drop_on drop_unseen
    forsake leave leave_one close_client
    refuse add_exchange begin_exchange ask_for ask_as ask_origin follow_with follow_row follow relay mark_row_of enter_row decided_by decided
    begin_replies use_chunks use_from use_said end_reply end_said close_finished end_replies regained
    fill_with fill_span fill_next fill_for fill give_up_asks
    hear ask_body ask_next ask hang_up
    remove_entry note_gone begin_op begin_in_turn begin_in_opening enter_next close_name lose_draft fail_op end_op lose_entry note_kept load_from load
    with_settings begun woken stuck opened_to configured lose_in_opening
    next come come_to come_to_decide deciding ending
    touch marks_anew end_patience close_idle_conn renew_marks tick_to tick rest_with
    event opened owing reached paid said gone take_decision evicted refused_row leave_memory forgotten_by noted begun_op ended_op unread shut dialled refused_dial undialled out dropped changed
    permits is_permitted
    rule_of
pp_law_on_literals = tt
