pub mod Disk
pub mod DiskData
pub mod Ended
pub mod Idle
pub mod Image
pub mod Log
pub mod LogData
pub mod Memory
