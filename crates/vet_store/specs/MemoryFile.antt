-- What a file in memory holds (ours).
use Rattle.vet_base.specs.Words.{Bytes}
use Rattle.vet_store.specs.declared.memory.file.MemoryFile.{MemoryFile}

abbrev pub bytes_in : MemoryFile → Bytes
bytes_in f = f.bytes.items
