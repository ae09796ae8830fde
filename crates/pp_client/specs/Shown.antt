-- The answers of the code as those of the definitions.
use Rattle.pp_head.specs.Shown.{shown_request}
use Rattle.pp_client.specs.Requests.{Front, Nothing, Begun, Asked, Refused}
use Rattle.pp_client.specs.declared.current.Current.{Current}
use Rattle.pp_client.specs.declared.current.Current.TheVariants.{Nothing as IsNothing, More as IsMore, Request as IsRequest, Refuse as IsRefuse}

abbrev pub shown : Current → Front
shown IsNothing = Nothing
shown IsMore = Begun
shown (IsRequest head fault) = Asked (shown_request head) fault
shown (IsRefuse status) = Refused status
