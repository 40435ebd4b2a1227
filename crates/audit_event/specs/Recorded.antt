-- What the parts of an event owe to its JSON value, before the event is put together of them.
use Rattle.std.specs.Prelude.{◌≡◌, ℕ, true, Option, Some}
use Rattle.serde_json.specs.Data.{Data}
use Rattle.base_types.specs.declared.kubernetes.request.Stage.{Stage}
use Rattle.audit_event.specs.declared.reading.Exchange.{Exchange}
use Rattle.audit_event.specs.declared.reading.Parties.{Parties}
use Rattle.audit_event.specs.declared.reading.Recording.{Recording}
use Rattle.audit_event.specs.declared.reading.Request.{Request}
use Rattle.audit_event.specs.declared.reading.Told.{Told}
use Rattle.audit_event.specs.Bodies.{request_in, response_in, IsSoundBody}
use Rattle.audit_event.specs.Events.{IsRequestOf}
use Rattle.audit_event.specs.Levels.{level_in, stage_in}
use Rattle.audit_event.specs.Numbers.{has_whole_numbers}
use Rattle.audit_event.specs.Rules.{audit_id_in}
use Rattle.audit_event.specs.Statuses.{code_in, status_in}
use Rattle.audit_event.specs.Times.{times_in, AreSound}
use Rattle.audit_event.specs.Users.{users_in}

-- when and how much was recorded
pub record IsRecordingOf (value : Data) (recording : Recording) : Type 0 where
  -- the level is the value's
  pub level : level_in value ≡ Some recording.level
  -- so is the stage
  pub stage : stage_in value ≡ Some recording.stage
  -- and so are the times
  pub times : times_in value ≡ Some recording.times
  -- which lie in the range of moments, the stage not before the receipt
  pub sound : AreSound recording.times.received.0 recording.times.staged.0
  -- the value's numbers outside the bodies are whole
  pub numbers : has_whole_numbers value ≡ true

-- which request it was
pub record IsRequestRead (value : Data) (request : Request) : Type 0 where
  -- the audit ID is the value's
  pub audit_id : audit_id_in value ≡ Some request.audit_id
  -- the attributes are those of its verb and URI
  pub attrs : IsRequestOf value request.attrs

-- who made the request, and the code of its answer
pub record ArePartiesOf (value : Data) (parties : Parties) : Type 0 where
  -- who asked, and as whom
  pub users : users_in value ≡ Some (parties.user, parties.impersonated)
  -- the code is the value's
  pub code : code_in value ≡ Some parties.code

-- what was sent and answered, at a stage and with a code
pub record IsExchangeOf (value : Data) (stage : Stage) (code : Option ℕ) (exchange : Exchange) : Type 0 where
  -- how the request was answered
  pub status : exchange.status ≡ status_in stage code value
  -- the body that was sent
  pub sent : exchange.request ≡ request_in value
  -- its numbers can be printed again
  pub sound_sent : IsSoundBody exchange.request
  -- the body that was answered
  pub answered : exchange.response ≡ response_in value
  -- its numbers can be printed again
  pub sound_answered : IsSoundBody exchange.response

-- what is told of a request besides what it is
pub record IsToldBy (value : Data) (stage : Stage) (told : Told) : Type 0 where
  -- who asked, as whom, and the code of the answer
  pub parties : ArePartiesOf value told.parties
  -- what was sent and answered with that code
  pub exchange : IsExchangeOf value stage told.parties.code told.exchange
