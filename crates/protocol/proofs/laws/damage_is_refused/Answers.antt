use Rattle.protocol.proofs.Damage.{few_refused, many_refused, messages_refused, empty_name_refused, long_name_refused, zero_name_refused, arguments_refused, new_ids_refused, no_child_refused, request_args_refused, event_args_refused, child_outside_refused, arg_outside_refused, core_refused}
use Rattle.protocol.proofs.laws.damage_is_refused.Goals as goal

pub returns : goal.returns
returns c = record {
  few = few_refused;
  many = many_refused;
  messages = messages_refused;
  empty_name = empty_name_refused;
  long_name = long_name_refused;
  zero_name = zero_name_refused;
  arguments = arguments_refused;
  new_ids = new_ids_refused;
  no_child = no_child_refused;
  request_args = request_args_refused;
  event_args = event_args_refused;
  child_outside = child_outside_refused;
  arg_outside = arg_outside_refused;
  core = core_refused;
}
