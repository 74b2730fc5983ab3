-- Faults of reading.
use Rattle.rp_reread.specs.declared.faults.FormFault.{FormFault}
use Rattle.rp_reread.specs.declared.faults.FormFault.TheVariants as forms
use Rattle.rp_reread.specs.declared.faults.ReadFault.{ReadFault}
use Rattle.rp_reread.specs.declared.faults.ReadFault.TheVariants.{NotReport, NoMemory}

-- what a fault of a part is for the whole
abbrev pub read_fault : FormFault → ReadFault
read_fault forms.NotReport = NotReport
read_fault forms.NoMemory = NoMemory

-- the fault that says nothing of the form
abbrev pub no_memory : FormFault
no_memory = forms.NoMemory
