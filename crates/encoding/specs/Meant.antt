-- The command that a lent one stands for.
-- Assumes nothing.
use Rattle.model.specs.Steps as Steps
use Rattle.fields.specs.Fields.{configuration_of}
use Rattle.encoding.specs.declared.Command.{Command}
use Rattle.encoding.specs.declared.Command.TheVariants.{Create, Remove, Open, Close, Assign, Unassign, SetApmask, SetAqmask, Configure}

-- its text is what was lent, and its configuration that of the bytes
unfoldable pub meant : Command → Steps.Command
meant (Create i) = Steps.create i
meant (Remove i) = Steps.remove i
meant (Open i) = Steps.open_it i
meant (Close i) = Steps.close_it i
meant (Assign k i text) = Steps.assign k i text.now
meant (Unassign k i text) = Steps.unassign k i text.now
meant (SetApmask text) = Steps.set_apmask text.now
meant (SetAqmask text) = Steps.set_aqmask text.now
meant (Configure bytes) = Steps.configure (configuration_of bytes.now)
