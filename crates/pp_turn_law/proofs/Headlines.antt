-- What the log behind a life that served means.
use Rattle.std.proofs.Common.{◌≡◌, sym, subst, ◌∙◌, List, [], ◌∷◌, ◌++◌, append_assoc, Some}
use Rattle.pp_law.proofs.Prefixes.{each_prefix}
use Rattle.pp_law.specs.Lawful.{Lawful}
use Rattle.pp_laws.specs.Runs.{state_after}
use Rattle.pp_law.specs.State.{Term}
use Rattle.pp_laws_crash.proofs.CrashLaws.{all_said_was_sent, each_image_backed}
use Rattle.pp_laws_found.proofs.FoundLaws.{acknowledged_found, acknowledged_recovered}
use Rattle.pp_laws_replies.proofs.StoryHappenings.{replies_in_order}
use Rattle.pp_laws_replies.proofs.StoryShown.{replies_show}
use Rattle.pp_laws_replies.proofs.Usable.{rows_usable}
use Rattle.pp_laws_sent.proofs.Hosts.{asks_go}
use Rattle.pp_laws_sent.specs.Stands.{SentStandsInTheLog}
use Rattle.pp_laws_sent.specs.Whole.{PassedIsOneSoFar, PassedIsOneWhole}
use Rattle.pp_obeys.proofs.Obeying.{obeys_at_first}
use Rattle.pp_world.specs.Disk.{IsLeftBehind}
use Rattle.pp_world.specs.Files.{Files}
use Rattle.pp_world.specs.Log.{Log}
use Rattle.pp_world.specs.declared.happening.Happening.{Happening}
use Rattle.pp_world.specs.declared.happening.Happening.TheVariants.{Noted, Said, Woke}
use Rattle.pp_world.specs.declared.note.Remark.TheVariants.{Taken}
use Rattle.pp_turn_law.proofs.LeftLogs.{left}
use Rattle.pp_turn_law.specs.Headline.{Happens, IsFrontOf, LawfulLogsHaveTheHeadline, ServedLivesHaveTheHeadline}
use Rattle.pp_turn_law.specs.Lives.{ServedLivesAreLawful}

module _ (terms : List Term) (log : Log) (lawful : Lawful terms log) where
  front_lawful : (front : Log) → IsFrontOf log front → Lawful terms front
  front_lawful front is = each_prefix terms front is.0 (subst (λ (l : Log). Lawful terms l) is.1 lawful)

  -- up to that happening, and with it
  up_to : (front : Log) (happening : Happening) → Happens log front happening → Lawful terms (front ++ happening ∷ [])
  up_to front happening is = front_lawful (front ++ happening ∷ []) (is.0, is.1 ∙ sym (append_assoc front (happening ∷ []) is.0))

  -- what a crash leaves of it, it leaves of the law's disk
  left_of_disk : (front : Log) (image : Files) → IsFrontOf log front → IsLeftBehind front image → IsLeftBehind (state_after terms front).disk image
  left_of_disk front image is = (left terms (state_after terms front) front image (obeys_at_first terms front (front_lawful front is))).to

pub have_headline : SentStandsInTheLog → PassedIsOneSoFar → PassedIsOneWhole → LawfulLogsHaveTheHeadline
have_headline sent_stands passed_is_one_so_far passed_is_one_whole terms log lawful = record {
  replies_are_in_order = λ n. replies_in_order terms log n lawful;
  said_bytes_were_sent = λ front n offered bytes is. all_said_was_sent terms front n offered bytes (up_to terms log lawful front (Said n offered bytes) is);
  replies_show_their_version = λ front is c r there amid begun by_row. replies_show terms front c r (front_lawful terms log lawful front is) there amid begun by_row;
  sent_stands_in_the_log = λ part there. sent_stands terms log part lawful there;
  asks_go_to_their_hosts = λ number e asked. asks_go terms log number e lawful asked;
  passed_is_one_response_so_far = λ front is c p there amid of. passed_is_one_so_far terms front (front_lawful terms log lawful front is) c p there amid of;
  passed_is_one_whole_response = λ front happening is c p there amid of over. passed_is_one_whole terms front happening (up_to terms log lawful front happening is) c p there amid of over;
  rows_are_fresh_or_checked = λ front n i d is by_row. rows_usable terms front n i d (up_to terms log lawful front (Noted (Taken n i d)) is) by_row;
  each_image_is_backed = λ front image is left. each_image_backed terms front image (front_lawful terms log lawful front is) (left_of_disk terms log lawful front image is left);
  acknowledged_is_found = λ front image key a is left noted. acknowledged_found terms front image key a (front_lawful terms log lawful front is) (left_of_disk terms log lawful front image is left) noted;
  acknowledged_is_recovered = λ front image key a is noted. acknowledged_recovered terms front image key a (up_to terms log lawful front (Woke image) is) noted;
}

pub served_headline : ServedLivesAreLawful → LawfulLogsHaveTheHeadline → ServedLivesHaveTheHeadline
served_headline lawful laws life budget words files before after x y wakes served told few brief =
    let it = lawful life budget words files before after x y wakes served told few brief in
    laws (life.terms budget) after (subst (λ (l : Log). Lawful (life.terms budget) l) (same _ _ (sym it.told ∙ told)) it.obeys.lawful)
  where
    same : (k l : Log) → Some k ≡ Some l → k ≡ l
    same k l is = cc is
