use Rattle.std.proofs.Common.{arith}
use Rattle.std.proofs.lemmas.Grind.{common_steps}
use Rattle.exportdata_cmd.proofs.error_line.ErrorLine.put_line.Goals as goal

pub returns-in_ok-put_number-in-WrongWord : goal.returns-in_ok-put_number-in-WrongWord
returns-in_ok-put_number-in-WrongWord c = rw c.in-WrongWord.is (grind (arith, common_steps))

pub returns-in-Missing : goal.returns-in-Missing
returns-in-Missing c = rw c.in-Missing.is (rw c.as_str.ensures.value at c.put_named.ensures)

pub returns-in-CannotRead : goal.returns-in-CannotRead
returns-in-CannotRead c =
    rw c.in-CannotRead.is (rw c.as_str-in-CannotRead.ensures.value at c.put_named-in-CannotRead.ensures)

pub returns-in-LimitFiles : goal.returns-in-LimitFiles
returns-in-LimitFiles c = rw c.in-LimitFiles.is c.put_words.ensures

pub returns-in-LimitBytes : goal.returns-in-LimitBytes
returns-in-LimitBytes c = rw c.in-LimitBytes.is c.put_words-in-LimitBytes.ensures

pub returns-in-LimitNodes : goal.returns-in-LimitNodes
returns-in-LimitNodes c = rw c.in-LimitNodes.is c.put_words-in-LimitNodes.ensures

pub returns-in-NoMemory : goal.returns-in-NoMemory
returns-in-NoMemory c = rw c.in-NoMemory.is c.put_words-in-NoMemory.ensures
